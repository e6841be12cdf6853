-- A run that was played: the cluster before it, the result of one that is done, and how one leaves its trace that is not played to
-- its end.
use Rattle.std.proofs.Common.{◌≡◌, ◌≤◌, ◌<◌, ◌^◌, ◌⊎◌, ℕ, List, length, Option, Some, None, Result, refl, sym, subst, inl, inr, lit<, lit≤}
use Rattle.std.specs.Prelude.{IfSome, IsSome, is_some}
use Rattle.gr_base.specs.declared.records.Edge.{Edge}
use Rattle.gr_outside.specs.Causes.{Rose}
use Rattle.gr_outside.specs.Files.{FilesSeen}
use Rattle.gr_program.specs.Program.{Program}
use Rattle.gr_job.specs.declared.job.ProgramChoice.{ProgramChoice}
use Rattle.gr_sched.specs.declared.event.Line.{Line}
use Rattle.gr_view.specs.declared.coordinator.Mode.TheVariants as mode
use Rattle.gr_cluster.specs.Tables.{Cluster}
use Rattle.gr_cluster.specs.Load.{Setting, load}
use Rattle.gr_cluster.specs.Runs.{Position}
use Rattle.gr_cluster.specs.Ending as cluster
use Rattle.gr_core.specs.Tables.{Tables}
use Rattle.gr_play.specs.Playing.{start}
use Rattle.gr_play.specs.Tracing.{Traces, TracesPart}
use Rattle.imitate.specs.declared.ended.Ended.TheVariants as ended
use Rattle.imitate.specs.declared.refusal.Refusal.{Refusal}
use Rattle.imitate.specs.declared.refusal.Refusal.TheVariants as refusal
use Rattle.imitate.specs.declared.told.Told.{Told}
use Rattle.imitate.specs.Chosen.{Chosen, chosen_of}
use Rattle.imitate.specs.Running.{trace_after}
use Rattle.imitate.specs.Playing.{IsPartTraced, IsUnplayed, PlaysRun}
use Rattle.imitate.proofs.Quiet.{traces-part}

-- a cluster as it is at load, as far as its counts go
pub record IsFresh {V A : Type 0} (c : Cluster V A) (places : ℕ) : Type 0 where
  pub places_are : c.places ≡ places
  pub flight : length c.flight ≤ 200000
  pub serial : c.serial < 2 ^ 62
  pub epoch : c.coordinator.epoch < 2 ^ 62
  pub commits : c.coordinator.commits < 2 ^ 62

module _ {V A : Type 0} (P : Program V A) (s : Setting) (es : List Edge) (vs : List ℕ) where
  load-fresh : IsFresh (load P s es vs) s.places
  unfolding load
  load-fresh = record { places_are = refl; flight = lit≤ tt; serial = lit< tt; epoch = lit< tt; commits = lit< tt }

  pub loaded-fresh : {R : Type 0} (p : R) (t : Tables R V A) → t ≡ record { program = p; cluster = load P s es vs } → IsFresh t.cluster s.places
  loaded-fresh {R} p t is = subst (λ (u : Tables R V A). IsFresh u.cluster s.places) (sym is) load-fresh

module _ (files files' : FilesSeen) (trace : List ℕ) (c : Chosen) (s : Position c.Value c.Sum) (steps : ℕ)
    (begun : IfSome files'.told (λ u. is_some u.begun ≡ files'.is_begun)) where
  part-traced : (told : Option cluster.Ending) → (IsSome told → Traces files files' trace (trace_after c s steps)) → (told ≡ None → TracesPart files files' trace (trace_after c s steps))
      → IsPartTraced files files' trace c s
  part-traced (Some e) whole part = (steps, traces-part files files' trace (trace_after c s steps) begun (whole refl))
  part-traced None whole part = (steps, part refl)

  pub is-unplayed : (told : Option cluster.Ending) → (IsSome told → Traces files files' trace (trace_after c s steps)) → (told ≡ None → TracesPart files files' trace (trace_after c s steps))
      → (why : Refusal) → (why ≡ refusal.OutOfMemory) ⊎ ((why ≡ refusal.Trace) × Rose files.write_faults files'.write_faults) → IsUnplayed files files' trace c s why
  is-unplayed told whole part why is =
      let traced = part-traced told whole part in
      elim is [
        | inl e ↦ subst (IsUnplayed files files' trace c s) (sym e) (inr traced)
        | inr t ↦ subst (IsUnplayed files files' trace c s) (sym t.0) (t.1, traced)
      ]

-- the run of a program of a job, which may be told in two ways
module _ (files files' : FilesSeen) (trace : List ℕ) (s : Setting) (es : List Edge) (vs : List ℕ) (ls : List Line) (result : Result Told Refusal) where
  abbrev pub ChosenRun : ProgramChoice → Type 0
  ChosenRun p = PlaysRun files files' trace (chosen_of p) (start (load (chosen_of p).program s es vs) ls) result

  pub chosen-run : (p q : ProgramChoice) → p ≡ q → ChosenRun q → ChosenRun p
  chosen-run p q e h = subst ChosenRun (sym e) h
