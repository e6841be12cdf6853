-- What a place does next in a rebuild, and what its log and the coordinator say then.
use Rattle.std.proofs.Common.{◌≡◌, ◌<◌, ◌≤◌, ◌+◌, ◌*◌, ◌^◌, ℕ, [], true, false, not, ◌==◌, ◌&&◌, nat_lt, length, refl, sym, ap, ◌∙◌, subst, arith, Some, if◌then◌else◌, le-ltb}
use Rattle.std.specs.Prelude.{IsSome, IsTrue, ⊤}
use Rattle.std.proofs.Math.Nat.{mul-le-mul_left, mul-le-mul_right}
use Rattle.std.proofs.lemmas.Bool.{and_right}
use Rattle.gr_base.specs.Rising.{has}
use Rattle.gr_base.specs.Places.{with_place}
use Rattle.gr_program.specs.Program.{Program}
use Rattle.gr_batch.specs.declared.stage.Stage.{Stage}
use Rattle.gr_batch.specs.Stages.{is_end}
use Rattle.gr_view.specs.declared.coordinator.Coordinator.{Coordinator}
use Rattle.gr_view.specs.Modes.{is_open, is_over, is_rebuild}
use Rattle.gr_rules.specs.Exchange.{needed, unsent}
use Rattle.gr_rules.specs.Todo.{Todo, compute_or_wait, send_or_rest}
use Rattle.gr_rules.specs.AtPlace.{due_count}
use Rattle.gr_round.specs.Line.{is_of_rebuild}
use Rattle.gr_round.specs.Todo.{todo_in_rebuild, AwaitsSending}
use Rattle.gr_cluster.specs.Tables.{Host, Cluster, host, log, view_of, wanted_in}
use Rattle.gr_cluster.specs.Todo.{others, todo}
use Rattle.gr_cluster.specs.Work.{exchange_of, worked}
use Rattle.gr_agree.specs.Truth.{Truth}
use Rattle.gr_agree.specs.Rebuilt.{true_records}
use Rattle.gr_agree.specs.Agree.{Agree}
use Rattle.gr_lists.proofs.Tests.{by_test}
use Rattle.gr_lists.proofs.Each.{Each-always}
use Rattle.gr_lists.proofs.Any.{find-any}
use Rattle.gr_law_rounds.specs.Network.{IsKept}
use Rattle.gr_law_rebuilds.proofs.Rebuild.Stages.{IsRebuildStage, by_stage}
pub use Rattle.gr_law_rebuilds.proofs.Rebuild.Stages.{not-over}
use Rattle.gr_law_rebuilds.proofs.Rebuild.Todo.{todo-meets}
use Rattle.gr_law_rounds.proofs.Round.InEpoch.{party}
use Rattle.gr_law_rebuilds.proofs.Rebuild.InEpoch.{at-epoch}
use Rattle.gr_law_rebuilds.proofs.Rebuild.Report.{report-kept}
use Rattle.gr_rebuild.specs.Ending.{IsAllCommitted}
use Rattle.gr_law_work.specs.InRebuild.{MayReport}
use Rattle.gr_law_work.proofs.Relies.Lists.{places-few}

pub of-rebuild : (s : Stage) → IsRebuildStage s → IsTrue (is_of_rebuild s)
of-rebuild = by_stage (λ s. IsTrue (is_of_rebuild s)) refl refl refl

-- with every commit installed and the epoch adopted, what is left is the work of a rebuild
pub todo-rebuild : {V A : Type 0} (co : Coordinator) (p : ℕ) (h : Host V A) → is_rebuild co.mode ≡ true → is_open co.mode ≡ true → h.installed ≡ co.commits → h.epoch ≡ co.epoch
    → todo co p h ≡ todo_in_rebuild h.inbox h.epoch (others co p) (exchange_of h) h.appended h.reported
unfolding todo todo_in_rebuild
todo-rebuild co p h rebuilding opened installed now =
    let no_install : nat_lt h.installed co.commits ≡ false = le-ltb h.installed co.commits (omega (arith, installed)) in
    let no_adopt : nat_lt h.epoch co.epoch ≡ false = le-ltb h.epoch co.epoch (omega (arith, now)) in
    (λ i. if not-over co.mode rebuilding i then Todo.Rest
    else if no_install i then Todo.Install
    else if no_adopt i then Todo.Adopt
    else if opened i && not h.computed then compute_or_wait h.inbox h.epoch (others co p) (needed (rebuilding i) h.stage)
    else if h.computed && not (is_end h.stage) then send_or_rest (unsent (others co p) h.sent)
    else if h.computed && (rebuilding i && not h.appended) then Todo.Append
    else if h.computed && not h.reported then Todo.Report
    else Todo.Rest)
    ∙ by_test h.computed
    (λ k. rw k refl)
    (λ k. rw k refl)

-- a bounded sum has 32 bits
sum-fits : (n k : ℕ) → n ≤ 1048576 → k ≤ 64 → n * k < 2 ^ 32
sum-fits n k few few' =
    let a = mul-le-mul_right k few in let b = mul-le-mul_left 1048576 few' in omega (arith, a, b)

module _ {V A : Type 0} (P : Program V A) (t : Truth V) (c : Cluster V A) (AG : Agree P t c) (rebuilding : is_rebuild c.coordinator.mode ≡ true) (p : ℕ) (h : Host V A) (at : host c p ≡ Some h)
    (le : c.coordinator.commits ≤ h.installed) (le' : c.coordinator.epoch ≤ h.epoch) where
  pub awaits-sending : AwaitsSending (others c.coordinator p) (exchange_of h)
  awaits-sending computed no_end =
      let E = at-epoch P t c AG rebuilding p h at le le' in
      let some = find-any (λ q. not (has h.sent q)) (λ q. ⊤) (others c.coordinator p) (E.unsent_left computed no_end) (Each-always (λ q. ⊤) (λ q. tt) (others c.coordinator p)) in
      subst IsSome (sym some.1) refl

  over : is_over c.coordinator.mode ≡ false
  over = not-over c.coordinator.mode rebuilding

  -- where it has not appended, all of its log is committed
  at-commit : h.appended ≡ false → IsAllCommitted (log c p)
  at-commit fresh =
      let E = at-epoch P t c AG rebuilding p h at le le' in
      record { not_torn = E.not_torn; nothing = E.tail ∙ ap (λ b. if b then true_records P (view_of P c) (wanted_in P c) t p else []) fresh }

  pub append-ready : todo c.coordinator p h ≡ Todo.Append → IsAllCommitted (log c p)
  append-ready e = at-commit (todo-meets c.coordinator p h rebuilding over Todo.Append e)

  -- the report leaves a cluster that agrees, where the sum is bounded
  sum-after : IsKept P t c (worked P c p h Todo.Report).0 → c.coordinator.due + due_count p h.pending < 2 ^ 32
  unfolding worked
  sum-after kept =
      let after = kept.1 in
      let few = after.open_work.reports.due_bounded rebuilding in
      let fits = sum-fits (length t.vertices) (length (with_place c.coordinator.ready p)) AG.committed.sound.few (places-few (with_place c.coordinator.ready p) after.committed.shaped.ready) in
      omega (arith, few, fits)

  not-yet : h.reported ≡ false → IsTrue (not (has c.coordinator.ready p))
  not-yet fresh = ap not (AG.open_work.reports.ready p h at (party P t c AG p h at) ∙ (ap (λ b. (h.epoch == c.coordinator.epoch) && b) fresh ∙ and_right (h.epoch == c.coordinator.epoch) false refl))

  pub report-ready : todo c.coordinator p h ≡ Todo.Report → MayReport c.coordinator p (due_count p h.pending)
  report-ready e = let m = todo-meets c.coordinator p h rebuilding over Todo.Report e in record {
    party = party P t c AG p h at;
    first = not-yet m.3;
    sum = sum-after (report-kept P t c AG rebuilding p h at le le' m.0 m.1 m.2 m.3);
  }
