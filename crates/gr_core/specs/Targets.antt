-- What a cluster keeps of what its places have worked out.
use Rattle.std.specs.Prelude.{ℕ, if◌then◌else◌, ◌≡◌, List, Option, Some, None, IsSomeAnd, IsTrue, get_or, set}
use Rattle.gr_base.specs.Places.{without_place}
use Rattle.gr_program.specs.Program.{Program}
use Rattle.gr_batch.specs.declared.batch.Batch.{Batch}
use Rattle.gr_signal.specs.declared.target.Target.{Target}
use Rattle.gr_round.specs.declared.view.RoundView.{RoundView}
use Rattle.gr_batch.specs.Bodies.{stage_of_body}
use Rattle.gr_round.specs.Kept.{targets_at, takes_targets, is_of_targets}
use Rattle.gr_cluster.specs.Tables.{Host}
use Rattle.gr_core.specs.Steps.{next_of}

-- those of a place are forgotten when a batch comes to it that they depend on
abbrev pub forgotten : {V A : Type 0} → Option (Batch V A) → List (Option (List Target)) → List (Option (List Target))
forgotten None kept = kept
forgotten (Some b) kept = if is_of_targets (stage_of_body b.body) then kept else set kept b.receiver None

module _ {V A : Type 0} where
  -- the targets of what woke at a host, in an epoch with these parties
  abbrev pub targets_of : Program V A → ℕ → List ℕ → ℕ → Host V A → List Target
  targets_of P e ps p h = targets_at P p e (without_place ps p) h.inbox h.stable h.arcs

  -- the targets that are kept at each place are those of its host
  abbrev pub TargetsFit : Program V A → ℕ → List ℕ → List (Option (Host V A)) → List (Option (List Target)) → Type 0
  TargetsFit P e ps hosts kept = (p : ℕ) (targets : List Target) (h : Host V A) → get_or kept p None ≡ Some targets → get_or hosts p None ≡ Some h → targets ≡ targets_of P e ps p h

  -- they are kept, if the next work of a host takes them
  abbrev pub AreKeptFor : Program V A → RoundView → ℕ → Host V A → Option (List Target) → Type 0
  AreKeptFor P w p h kept = IsTrue (takes_targets h.stage (next_of p w h)) → IsSomeAnd kept (λ targets. targets ≡ targets_of P w.epoch w.parties p h)

  abbrev pub AreKept : Program V A → RoundView → ℕ → List (Option (Host V A)) → Option (List Target) → Type 0
  AreKept P w p hosts kept = (h : Host V A) → get_or hosts p None ≡ Some h → AreKeptFor P w p h kept

  -- they are given, if the next work of a host takes them
  abbrev pub AreGiven : Program V A → RoundView → ℕ → Host V A → List Target → Type 0
  AreGiven P w p h targets = IsTrue (takes_targets h.stage (next_of p w h)) → targets ≡ targets_of P w.epoch w.parties p h

  -- a host has the copies, the edges and the inbox that the host of the place had
  pub record StandsAsBefore (hosts : List (Option (Host V A))) (p : ℕ) (h : Host V A) : Type 0 where
    pub before : Host V A
    pub is : get_or hosts p None ≡ Some before
    pub stable : h.stable ≡ before.stable
    pub arcs : h.arcs ≡ before.arcs
    pub inbox : h.inbox ≡ before.inbox

  abbrev pub StandAsBefore : List (Option (Host V A)) → List (Option (Host V A)) → Type 0
  StandAsBefore hosts after = (p : ℕ) (h : Host V A) → get_or after p None ≡ Some h → StandsAsBefore hosts p h
