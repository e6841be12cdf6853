-- That runs end, how many events they take, and what is never copied.
use Rattle.std.specs.Prelude.{ℕ, ◌+◌, ◌-◌, ◌*◌, ◌≡◌, ◌≢◌, ◌<◌, ◌≤◌, Bool, true, false, max, IsTrue, List, [], ◌∷◌, Some, None, length, if◌then◌else◌, ⊤}
use Rattle.std.specs.List.{AllByRecursion as Each}
use Rattle.gr_base.specs.declared.records.Edge.{Edge}
use Rattle.gr_base.specs.Degrees.{outdegree}
use Rattle.gr_program.specs.Program.{Program}
use Rattle.gr_program.specs.ProgramLaws.{ProgramLaws}
use Rattle.gr_batch.specs.declared.body.Body.{Body}
use Rattle.gr_batch.specs.declared.outcome.Outcome.{Outcome}
use Rattle.gr_batch.specs.declared.outcome.Outcome.TheVariants as outcome
use Rattle.gr_batch.specs.Bodies.{values_of, grants_of}
use Rattle.gr_sched.specs.declared.event.Event.{Event}
use Rattle.gr_sched.specs.declared.event.Line.{Line}
use Rattle.gr_sched.specs.declared.event.Line.TheVariants as line
use Rattle.gr_view.specs.Decisions.{looked_at}
use Rattle.gr_cluster.specs.Tables.{Cluster, host, inbox_of}
use Rattle.gr_cluster.specs.Load.{Setting, load}
use Rattle.gr_cluster.specs.Step.{step}
use Rattle.gr_cluster.specs.Canonical.{next_canonical}
use Rattle.gr_cluster.specs.Left.{left}
use Rattle.gr_cluster.specs.Runs.{Position, Played, position_after, steps_of, IsWhole, IsRun}
use Rattle.gr_agree.specs.Accepted.{IsGraph, IsSetting, NamesPlacesAt}
use Rattle.gr_agree.specs.Agree.{Invariant}

-- every schedule ends: some number of steps leaves none
abbrev pub EveryRunEnds : (V A : Type 0) → Type 0
EveryRunEnds V A =
    (P : Program V A) → ProgramLaws P → (c : Cluster V A) (ls : List Line) → Each NamesPlacesAt ls → Invariant P c
    → (n : ℕ) × IsWhole (position_after P n (record { cluster = c; lines = ls }))

-- a step raises each count by one at most, and lowers none
pub record IsRaisedByOne {V A : Type 0} (c d : Cluster V A) : Type 0 where
  pub serial : (c.serial ≤ d.serial) × (d.serial ≤ c.serial + 1)
  pub epoch : (c.coordinator.epoch ≤ d.coordinator.epoch) × (d.coordinator.epoch ≤ c.coordinator.epoch + 1)
  pub commits : (c.coordinator.commits ≤ d.coordinator.commits) × (d.coordinator.commits ≤ c.coordinator.commits + 1)
  pub round : (c.coordinator.round ≤ d.coordinator.round) × (d.coordinator.round ≤ c.coordinator.round + 1)
  pub flight : length d.flight ≤ length c.flight + 1

abbrev pub StepsByOne : (V A : Type 0) → Type 0
StepsByOne V A = (P : Program V A) (c : Cluster V A) (e : Event) → IsRaisedByOne c (step P c e).0

-- until the run is over something is left, and each canonical event inside an epoch leaves less
abbrev pub LeavesLess : (V A : Type 0) → Type 0
LeavesLess V A =
    (P : Program V A) → ProgramLaws P → (c : Cluster V A) (e : Event) → Invariant P c → next_canonical c ≡ Some e
    → (0 < left c) × ((step P c e).0.coordinator.epoch ≡ c.coordinator.epoch → left (step P c e).0 < left c)

-- what is left is bounded by the batches in flight and the square of the number of places that take part
abbrev pub LeftIsBounded : (V A : Type 0) → Type 0
LeftIsBounded V A =
    (P : Program V A) (c : Cluster V A) → Invariant P c
    → left c ≤ length c.flight + 8 * length (looked_at c.coordinator) * length (looked_at c.coordinator) + 1

-- `finish` is the only line that is left
abbrev pub finishing : {V A : Type 0} → Cluster V A → Position V A
finishing c = record { cluster = c; lines = line.Finish ∷ [] }

-- no more steps than are left, and so than the batches in flight and the square of the number of places that take part allow
pub record IsShort {V A : Type 0} (c : Cluster V A) (n : ℕ) : Type 0 where
  pub by_left : n ≤ left c
  pub by_places : n ≤ length c.flight + 8 * length (looked_at c.coordinator) * length (looked_at c.coordinator) + 1

-- so short is each stretch of `finish`: n steps, all but the last of which stay in its epoch
abbrev pub StretchIsShort : (V A : Type 0) → Type 0
StretchIsShort V A =
    (P : Program V A) → ProgramLaws P → (c : Cluster V A) (n : ℕ) → Invariant P c
    → length (steps_of P n (finishing c)) ≡ n → (position_after P (n - 1) (finishing c)).cluster.coordinator.epoch ≡ c.coordinator.epoch → IsShort c n

-- whether an outcome opens a new epoch: a failure, a commit, a recovery or repair that opens, and a discard
abbrev pub opens_epoch : {V A : Type 0} → Outcome V A → Bool
opens_epoch (outcome.Failed ps) = true
opens_epoch (outcome.Committed n r d) = true
opens_epoch (outcome.Opened e) = true
opens_epoch (outcome.Discarded e) = true
opens_epoch _ = false

-- in how many stretches these steps come: one ends with each step that opens a new epoch, and the last with the last step
abbrev pub stretches : {V A : Type 0} → List (Played V A) → ℕ
stretches [] = 0
stretches (x ∷ xs) = if opens_epoch x.outcome then 1 + stretches xs else max 1 (stretches xs)

-- `finish` plays events in at most three stretches beside one for each round that it commits
abbrev pub FinishIsShort : (V A : Type 0) → Type 0
FinishIsShort V A =
    (P : Program V A) → ProgramLaws P → (c : Cluster V A) (played : List (Played V A)) (end : Cluster V A) → Invariant P c
    → IsRun P (finishing c) played end
    → stretches played + c.coordinator.round ≤ 3 + end.coordinator.round

-- a body tells no value of a vertex without readers: none is among its new values, and none is granted with its value
pub record HidesUnread {V A : Type 0} (es : List Edge) (b : Body V A) : Type 0 where
  pub updates : Each (λ x. outdegree es x.vertex ≢ 0) (values_of b)
  pub grants : Each (λ x. outdegree es x.vertex ≡ 0 → x.value ≡ None) (grants_of b)

-- neither does the batch of a delivery; other outcomes have no batch
abbrev pub DeliversHidden : {V A : Type 0} → List Edge → Outcome V A → Type 0
DeliversHidden es (outcome.Delivered b fate) = HidesUnread es b.body
DeliversHidden es _ = ⊤

-- nor does any batch that was delivered, is in flight or lies in an inbox, of whichever epoch it is
pub record HidesAlong {V A : Type 0} (es : List Edge) (played : List (Played V A)) (c : Cluster V A) : Type 0 where
  pub delivered : Each (λ x. DeliversHidden es x.outcome) played
  pub in_flight : Each (λ b. HidesUnread es b.body) c.flight
  pub in_inbox : (p : ℕ) → Each (λ b. HidesUnread es b.body) (inbox_of (host c p))

-- Under a forgetful program no batch of a run from load tells a value of a vertex without readers. This holds after each number of steps,
-- and so of each batch that is sent: it is in flight after its step.
abbrev pub CopiesNoHiddenValue : (V A : Type 0) → Type 0
CopiesNoHiddenValue V A =
    (P : Program V A) → ProgramLaws P → IsTrue P.forgetful → (s : Setting) (es : List Edge) (vs : List ℕ) → IsSetting s → IsGraph es vs
    → (ls : List Line) → Each NamesPlacesAt ls → (n : ℕ)
    → let start : Position V A = record { cluster = load P s es vs; lines = ls } in HidesAlong es (steps_of P n start) (position_after P n start).cluster
