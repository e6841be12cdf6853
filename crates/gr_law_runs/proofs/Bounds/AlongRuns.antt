-- Along a run from load under a forgetful program no batch tells a value of a vertex without readers.
use Rattle.std.proofs.Common.{◌≡◌, ℕ, zero, suc, List, [], true, refl, sym, subst, Some, None}
use Rattle.std.specs.List.{AllByRecursion as Each}
use Rattle.gr_base.specs.declared.records.Edge.{Edge}
use Rattle.gr_base.specs.Places.{below}
use Rattle.gr_program.specs.Program.{Program}
use Rattle.gr_program.specs.ProgramLaws.{ProgramLaws}
use Rattle.gr_batch.specs.declared.batch.Batch.{Batch}
use Rattle.gr_batch.specs.declared.outcome.Outcome.{Outcome}
use Rattle.gr_batch.specs.declared.outcome.Outcome.TheVariants as outcome
use Rattle.gr_sched.specs.declared.event.Event.{Event}
use Rattle.gr_sched.specs.declared.event.Line.{Line}
use Rattle.gr_cluster.specs.Tables.{Cluster}
use Rattle.gr_cluster.specs.Load.{Setting, first_host, load}
use Rattle.gr_cluster.specs.Step.{step}
use Rattle.gr_cluster.specs.Runs.{Position, next_event, position_by, next_position, position_after, steps_of}
use Rattle.gr_agree.specs.Accepted.{IsGraph, IsSetting}
use Rattle.gr_agree.specs.Bounds.{HidesUnread, DeliversHidden, HidesAlong}
use Rattle.gr_lists.proofs.Each.{Each-always}
use Rattle.gr_lists.proofs.Maps.{Each-map}
use Rattle.gr_lists.proofs.Tests.{by_option}
use Rattle.gr_law_runs.specs.Events.{AgreesIn}
use Rattle.gr_law_runs.proofs.Ends.Runs.{AllName, StandsIn, next-stands, load-stands}
use Rattle.gr_law_runs.proofs.Bounds.Batches.{IsInbox, AllBatches, TellsOf, Each-get_or, step-spreads}
use Rattle.gr_law_runs.proofs.Bounds.Copied.{present-hides}

module _ {V A : Type 0} (P : Program V A) (L : ProgramLaws P) (forgetful : P.forgetful ≡ true) (es : List Edge) (vs : List ℕ) where
  -- a batch that hides what it must
  abbrev Hides : Batch V A → Type 0
  Hides b = HidesUnread es b.body

  told-hidden : (o : Outcome V A) → TellsOf Hides o → DeliversHidden es o
  told-hidden (outcome.Delivered b f) k = k
  told-hidden _ k = tt

  -- a cluster that agrees with a state of the graph sends nothing else
  sends-hidden : (d : Cluster V A) → AgreesIn P es vs d → Each (λ b. b.epoch ≡ d.coordinator.epoch → Hides b) d.flight
  sends-hidden d K = subst (λ l. Each (λ b. b.epoch ≡ d.coordinator.epoch → HidesUnread l b.body) d.flight) K.edges (present-hides P forgetful K.state d K.agrees)

  stays-hidden : (s : Position V A) → AllBatches Hides s.cluster → HidesAlong es [] s.cluster
  stays-hidden s B = record {
    delivered = tt;
    in_flight = B.flight;
    in_inbox = λ p. Each-get_or (IsInbox Hides) s.cluster.hosts p None tt B.hosts;
  }

  next-none : (s : Position V A) → next_event s ≡ None → next_position P s ≡ s
  unfolding next_position
  next-none s none = rw none refl

  next-some : (s : Position V A) (e : Event) → next_event s ≡ Some e → next_position P s ≡ position_by P s (Some e)
  unfolding next_position
  next-some s e is = rw is refl

  along : (n : ℕ) (s : Position V A) → StandsIn P L es vs s → AllBatches Hides s.cluster → HidesAlong es (steps_of P n s) (position_after P n s).cluster
  unfolding steps_of position_after
  along zero s S B = stays-hidden s B
  along (suc n) s S B = by_option (next_event s)
      (λ none. let stays = next-none s none in
      let rest = along n (next_position P s) (next-stands P L es vs s S) (subst (λ r. AllBatches Hides r.cluster) (sym stays) B) in
      rw none (record { delivered = tt; in_flight = rest.in_flight; in_inbox = rest.in_inbox }))
      (λ e is.
      let goes = next-some s e is in let S' = next-stands P L es vs s S in
      let agrees : AgreesIn P es vs (step P s.cluster e).0 = subst (λ (r : Position V A). AgreesIn P es vs r.cluster) goes S'.cluster in
      let K = step-spreads Hides P s.cluster B e (sends-hidden (step P s.cluster e).0 agrees) in
      let rest = along n (next_position P s) S' (subst (λ r. AllBatches Hides r.cluster) (sym goes) (record { flight = K.all.flight; hosts = K.all.hosts })) in
      rw is (record { delivered = (told-hidden (step P s.cluster e).1 K.told, rest.delivered); in_flight = rest.in_flight; in_inbox = rest.in_inbox }))

  loaded : (s : Setting) → AllBatches Hides (load P s es vs)
  unfolding load
  loaded s = record { flight = tt; hosts = Each-map (IsInbox Hides) (first_host P s es vs) (below s.places) (Each-always _ (λ p. tt) (below s.places)) }

  pub run-hidden : (s : Setting) → IsSetting s → IsGraph es vs → (ls : List Line) → AllName ls → (n : ℕ)
      → let start : Position V A = record { cluster = load P s es vs; lines = ls } in HidesAlong es (steps_of P n start) (position_after P n start).cluster
  run-hidden s IS IG ls names n = along n (record { cluster = load P s es vs; lines = ls }) (load-stands P L s es vs IS IG ls names) (loaded s)
