-- What a place has left, and how each of its works lowers it.
use Rattle.std.proofs.Common.{◌≡◌, ℕ, ◌+◌, ◌<◌, ◌≤◌, List, [], Bool, true, false, cond, not, ◌==◌, ◌&&◌, nat_lt, refl, sym, ◌∙◌, subst, arith, Some, le-ltb, lt-ltb, ne_eqb}
use Rattle.std.specs.Prelude.{sum_by, IsTrue}
use Rattle.std.proofs.lemmas.List.Sums.{sum_by-le-sum_by}
use Rattle.std.proofs.lemmas.Bool.{and_right, not-true}
use Rattle.gr_base.specs.declared.records.NumberedEdge.{NumberedEdge}
use Rattle.gr_base.specs.Rising.{has}
use Rattle.gr_base.specs.Places.{with_place}
use Rattle.gr_program.specs.declared.copy.VertexCopy.{VertexCopy}
use Rattle.gr_batch.specs.declared.stage.Stage.{Stage}
use Rattle.gr_batch.specs.Stages.{code_of, is_stage, is_end, stage_after}
use Rattle.gr_view.specs.declared.coordinator.Coordinator.{Coordinator}
use Rattle.gr_view.specs.Modes.{is_open, is_rebuild}
use Rattle.gr_rules.specs.Exchange.{Exchange, begun, computed, sent_to, unsent}
use Rattle.gr_cluster.specs.Tables.{Host}
use Rattle.gr_cluster.specs.Stages.{stages_of, has_stage}
use Rattle.gr_cluster.specs.Work.{first_stage}
use Rattle.gr_cluster.specs.Todo.{others}
use Rattle.gr_cluster.specs.Work.{installed_host, adopted_host, exchange_of, computed_host, sent_host}
use Rattle.gr_cluster.specs.Left.{left_at}
use Rattle.gr_lists.proofs.Tests.{by_test, by_option}
use Rattle.gr_lists.proofs.Any.{eqb-sym, find-one_of}
use Rattle.gr_law_runs.proofs.Left.Sums.{sum_by-falls}
use Rattle.gr_law_runs.proofs.Left.Stages.{left_in, left_in-most, left_in-all, computed-no_more, computed-less, sent-no_more, sent-less, two-left, passed-no_more, passed-less}

module _ (co : Coordinator) (p : ℕ) where
  -- what an exchange leaves of the stages of the mode
  abbrev pub left_of_stages : Bool → Exchange → ℕ
  left_of_stages adopted x = sum_by (left_in adopted (others co p) x) (stages_of co.mode)

  -- what is left by five tests and the exchange: a missing install, a missing adoption, an adopted epoch, an append and a report
  abbrev pub left_by : Bool → Bool → Bool → Exchange → Bool → Bool → ℕ
  left_by uninstalled older adopted x appended reported =
      cond uninstalled 1 0 + cond older 1 0 + left_of_stages adopted x
      + cond (is_rebuild co.mode && not (adopted && appended)) 1 0 + cond (is_open co.mode && not (adopted && reported)) 1 0

  stages-fall : (x y : Exchange) (d : ℕ) → ((s : Stage) → left_in true (others co p) y s ≤ left_in true (others co p) x s)
      → ((s : Stage) → is_stage s x.stage ≡ true → left_in true (others co p) y s + d ≤ left_in true (others co p) x s)
      → IsTrue (has_stage (stages_of co.mode) x.stage) → left_of_stages true y + d ≤ left_of_stages true x
  stages-fall x y d no_more less = sum_by-falls (left_in true (others co p) y) (left_in true (others co p) x) (is_stage x.stage) d no_more
      (λ s e. less s (eqb-sym (code_of s) (code_of x.stage) ∙ e)) (stages_of co.mode)

  -- a stage is computed, and passed where there is nobody to send to
  computed-falls : (x : Exchange) → x.computed ≡ false → IsTrue (has_stage (stages_of co.mode) x.stage) → left_of_stages true (computed (unsent (others co p) []) x) + 1 ≤ left_of_stages true x
  computed-falls x not_yet m = by_test (is_end x.stage)
      (λ e. rw e stays)
      (λ e. by_option (unsent (others co p) [])
      (λ n. rw (e, n) (stages-fall x (begun (stage_after x.stage)) 1 (passed-no_more (others co p) x 1 e one-left) (passed-less (others co p) x 1 e one-left) m))
      (λ q n. rw (e, n) stays))
    where
      stays : left_of_stages true (record x { computed = true }) + 1 ≤ left_of_stages true x
      stays = stages-fall x (record x { computed = true }) 1 (computed-no_more (others co p) x not_yet) (computed-less (others co p) x not_yet) m

      one-left : (s : Stage) → is_stage s x.stage ≡ true → 1 ≤ left_in true (others co p) x s
      one-left s k = let l = computed-less (others co p) x not_yet s k in omega (arith, l)

  -- a batch is sent, and the stage passed with the last one
  sent-falls : (x : Exchange) (r : ℕ) → unsent (others co p) x.sent ≡ Some r → is_end x.stage ≡ false → IsTrue (has_stage (stages_of co.mode) x.stage)
      → left_of_stages true (sent_to (others co p) r x) + 2 ≤ left_of_stages true x
  sent-falls x r un no_end m =
      let f = find-one_of (λ q. not (has x.sent q)) (others co p) r un in
      let fresh : has x.sent r ≡ false = not-true (has x.sent r) f.0 in by_option (unsent (others co p) (with_place x.sent r))
      (λ n. rw n (stages-fall x (begun (stage_after x.stage)) 2 (passed-no_more (others co p) x 2 no_end (two-left (others co p) x r f.1 fresh no_end)) (passed-less (others co p) x 2 no_end (two-left (others co p) x r f.1 fresh no_end)) m))
      (λ q n. rw n (stages-fall x (record x { sent = with_place x.sent r }) 2 (sent-no_more (others co p) x r f.1 fresh) (sent-less (others co p) x r f.1 fresh no_end) m))

module _ {V A : Type 0} (co : Coordinator) (p : ℕ) (h : Host V A) where
  pub install-lowers : h.installed < co.commits → h.installed + 1 ≡ co.commits → left_at co p (installed_host h) + 1 ≤ left_at co p h
  install-lowers lt is =
      let was : nat_lt h.installed co.commits ≡ true = lt-ltb _ _ lt in let now : nat_lt (h.installed + 1) co.commits ≡ false = le-ltb _ _ (omega (arith, is)) in
      rw (was, now) (omega arith)

  pub adopt-lowers : h.epoch < co.epoch → left_at co p (adopted_host co.epoch co.mode h) + 1 ≤ left_at co p h
  adopt-lowers lt =
      let was : nat_lt h.epoch co.epoch ≡ true = lt-ltb _ _ lt in
      let older : (h.epoch == co.epoch) ≡ false = ne_eqb _ _ (λ e. absurd (omega (arith, lt, e))) in
      let now : nat_lt co.epoch co.epoch ≡ false = le-ltb _ _ (omega arith) in
      let unappended : ((co.epoch == co.epoch) && false) ≡ false = and_right _ false refl in
      let stages = sum_by-le-sum_by (left_in (co.epoch == co.epoch) (others co p) (begun (first_stage co.mode))) (left_in false (others co p) (exchange_of h)) (stages_of co.mode)
      (λ s. let most = left_in-most (co.epoch == co.epoch) (others co p) (begun (first_stage co.mode)) s in let all = left_in-all false (others co p) (exchange_of h) s refl refl in omega (arith, most, all)) in
      rw (was, older, now, unappended) (omega (arith, stages))

  -- where it has adopted the epoch
  module _ (now : (h.epoch == co.epoch) ≡ true) where
    abbrev with_line : Bool → Exchange → Bool → Bool → ℕ
    with_line adopted = left_by co p (nat_lt h.installed co.commits) (nat_lt h.epoch co.epoch) adopted

    pub compute-lowers : (rows : List (VertexCopy V)) (arcs : List NumberedEdge) → h.computed ≡ false → IsTrue (has_stage (stages_of co.mode) h.stage)
        → left_at co p (computed_host (others co p) rows arcs h) + 1 ≤ left_at co p h
    compute-lowers rows arcs not_yet m =
        let l = computed-falls co p (exchange_of h) not_yet m in
        subst (λ b. with_line b (computed (unsent (others co p) []) (exchange_of h)) h.appended h.reported + 1 ≤ with_line b (exchange_of h) h.appended h.reported) (sym now) (omega (arith, l))

    pub send-lowers : (r : ℕ) → unsent (others co p) h.sent ≡ Some r → is_end h.stage ≡ false → IsTrue (has_stage (stages_of co.mode) h.stage)
        → left_at co p (sent_host (others co p) r h) + 2 ≤ left_at co p h
    send-lowers r un no_end m =
        let l = sent-falls co p (exchange_of h) r un no_end m in
        subst (λ b. with_line b (sent_to (others co p) r (exchange_of h)) h.appended h.reported + 2 ≤ with_line b (exchange_of h) h.appended h.reported) (sym now) (omega (arith, l))

    pub append-lowers : is_rebuild co.mode ≡ true → h.appended ≡ false → left_at co p (record h { appended = true }) + 1 ≤ left_at co p h
    append-lowers rebuild not_yet = rw (now, rebuild, not_yet) (omega arith)

    pub report-lowers : is_open co.mode ≡ true → h.reported ≡ false → left_at co p (record h { reported = true }) + 1 ≤ left_at co p h
    report-lowers opened not_yet = rw (now, opened, not_yet) (omega arith)
