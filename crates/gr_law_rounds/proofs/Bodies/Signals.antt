-- Which vertices woke, the Signal and Call bodies and the vertices due next, where rows, edges and batches are those of the committed state.
use Rattle.std.proofs.Common.{◌≡◌, ◌<◌, ℕ, List, [], ◌∷◌, ◌++◌, Bool, true, false, not, ◌==◌, ◌&&◌, ◌||◌, map, filter_map, flat_map, refl, sym, ap, ◌∙◌, arith, Option, Some, None, if◌then◌else◌, eqb-true, eq-eqb}
use Rattle.std.specs.Prelude.{unwrap_or}
use Rattle.std.specs.List.{AllByRecursion as Each, list_any}
use Rattle.std.proofs.lemmas.Bool.{and_parts, and_right, both_ways, or_left, or_right}
use Rattle.std.proofs.Math.Bool.{and-true, and_self_left}
use Rattle.std.proofs.lemmas.List.Folds.{list_any-append}
use Rattle.gr_base.specs.declared.records.NumberedEdge.{NumberedEdge}
use Rattle.gr_base.specs.Rising.{has}
use Rattle.gr_base.specs.Places.{without_place}
use Rattle.gr_program.specs.declared.copy.VertexCopy.{VertexCopy}
use Rattle.gr_program.specs.Program.{Program}
use Rattle.gr_program.specs.ProgramLaws.{ProgramLaws}
use Rattle.gr_program.specs.Rounds.{after_round}
use Rattle.gr_batch.specs.declared.body.NewValue.{NewValue}
use Rattle.gr_rules.specs.Round.{woke_by, is_signalled, signal_body, call_body}
use Rattle.gr_agree.specs.Truth.{Truth, true_indegree, true_outdegree, held, place_of, arcs_at, hidden, copy_at, rows_at}
use Rattle.gr_agree.specs.TrueRound.{value_next, wakes_at, active_next, true_value, true_values, true_signals, true_calls}
use Rattle.gr_agree.specs.Logs.{Sound}
use Rattle.gr_lists.proofs.Tests.{by_test, by_option}
use Rattle.gr_lists.proofs.Choices.{either_way, or_absorbs, or-exchange}
use Rattle.gr_lists.proofs.Each.{Each-both, Each-weaker, Each-always, Each-has}
use Rattle.gr_lists.proofs.Any.{list_any-none, list_any-agree, list_any-filter, list_any-and, list_any-or, list_any-flat_map, list_any-is, has-filter, eqb-sym}
use Rattle.gr_lists.proofs.Selections.{map-filter-map-filter}
use Rattle.gr_law_rounds.proofs.Bodies.Fold.{occurs}
use Rattle.gr_law_rounds.proofs.Bodies.Steady.{Steady}
use Rattle.gr_law_rounds.proofs.Bodies.Rows.{held-here}
use Rattle.gr_law_rounds.proofs.Bodies.Values.{own_line, own_line-named}

abbrev wake_of : {V : Type 0} → Option (NewValue V) → Bool
wake_of None = false
wake_of (Some n) = n.wake

-- whether a vertex woke, by the values that a choice by vertex gives
module _ {V : Type 0} (N : ℕ → Option (NewValue V)) (named : (u : ℕ) (n : NewValue V) → N u ≡ Some n → n.vertex ≡ u) where
  pub woke_by-filter_map : (vs : List ℕ) (v : ℕ) → woke_by (filter_map N vs) v ≡ (has vs v && wake_of (N v))
  woke_by-filter_map [] v = refl
  woke_by-filter_map (u ∷ vs) v = by_test (u == v)
      (λ e. let same : u ≡ v = eqb-true u v e in by_option (N u)
      (λ k. let none : N v ≡ None = ap N (sym same) ∙ k in rw (k, woke_by-filter_map vs v, e, none) (and_right (has vs v) false refl))
      (λ n k. let some : N v ≡ Some n = ap N (sym same) ∙ k in let at : (n.vertex == v) ≡ true = eq-eqb _ _ (named u n k ∙ same) in
      rw (k, at, woke_by-filter_map vs v, e, some) (or_absorbs n.wake (has vs v))))
      (λ e. by_option (N u)
      (λ k. rw (k, e) (woke_by-filter_map vs v))
      (λ n k. let at : (n.vertex == v) ≡ false = ap (λ x. x == v) (named u n k) ∙ e in rw (k, at, e) (woke_by-filter_map vs v)))

has-from-occurs : (k : ℕ) (ps : List ℕ) → 0 < occurs k ps → has ps k ≡ true
has-from-occurs k [] o = absurd (omega (arith, o))
has-from-occurs k (q ∷ ps) o = by_test (q == k)
    (λ e. or_left _ _ e)
    (λ e. let e' : (k == q) ≡ false = eqb-sym k q ∙ e in let o' = rw e' at o in or_right (q == k) _ (has-from-occurs k ps o'))

module _ {V A : Type 0} (P : Program V A) (t : Truth V) (L : ProgramLaws P) (S : Sound P t) (N : Steady P t) (p : ℕ) (ps : List ℕ)
    (mastered : (v : ℕ) → has t.vertices v ≡ true → has ps (t.master v) ≡ true) (once : occurs p ps ≡ 1) (placed : Each (λ a. occurs (place_of t a) ps ≡ 1) t.edges) where
  abbrev others : List ℕ
  others = without_place ps p

  has-others : (q : ℕ) → has others q ≡ (has ps q && not (q == p))
  has-others q = has-filter (λ r. not (r == p)) ps q

  somewhere : (q : ℕ) → has ps q ≡ true → ((q == p) || has others q) ≡ true
  somewhere q h = by_test (q == p)
      (λ e. rw e refl)
      (λ e. rw (e, has-others q, h, e) refl)

  pub one-place : (v : ℕ) → has t.vertices v ≡ true → ((t.master v == p) || has others (t.master v)) ≡ true
  one-place v there = somewhere (t.master v) (mastered v there)

  -- the new values that p knows
  unfoldable pub all_lines : List (NewValue V)
  all_lines = filter_map (own_line P t p) t.vertices ++ flat_map (λ q. true_values P t q p) others

  pub true_value-named : (q u : ℕ) (l : NewValue V) → true_value P t q p u ≡ Some l → l.vertex ≡ u
  true_value-named q u l e = by_test ((t.due u && not (hidden P t u)) && ((t.master u == q) && held t p u))
      (λ k. let e' = rw k at e in cc)
      (λ k. let e' = rw k at e in cc)

  wake-true : (a m : Bool) (x : NewValue V) → wake_of (if a && (m && true) then Some x else None) ≡ (m && (a && x.wake))
  wake-true true true x = refl
  wake-true true false x = refl
  wake-true false true x = refl
  wake-true false false x = refl

  wake-own : (a m : Bool) (x : NewValue V) → wake_of (if a && m then Some x else None) ≡ (m && (a && x.wake))
  wake-own true true x = refl
  wake-own true false x = refl
  wake-own false true x = refl
  wake-own false false x = refl

  -- which of the vertices that p holds woke
  pub woke-at : (v : ℕ) → hidden P t v ≡ false → has t.vertices v ≡ true → held t p v ≡ true → woke_by all_lines v ≡ wakes_at P t v
  unfolding all_lines true_values own_line
  woke-at v plain m h =
      let own : woke_by (filter_map (own_line P t p) t.vertices) v ≡ ((t.master v == p) && wakes_at P t v) =
      woke_by-filter_map (own_line P t p) (own_line-named P t p) t.vertices v ∙ (ap (λ b. b && wake_of (own_line P t p v)) m ∙ (wake-own (t.due v) (t.master v == p) _
      ∙ (λ i. (t.master v == p) && (S.due_active v plain i && P.wakes (unwrap_or (if plain i && not ((t.master v == p) && t.kept v) then None else Some (t.state.value v)) (P.start v (true_indegree t v) (true_outdegree t v))) (value_next P t v))))) in
      let one : (q : ℕ) → woke_by (true_values P t q p) v ≡ ((t.master v == q) && wakes_at P t v) = (λ q.
      woke_by-filter_map (true_value P t q p) (true_value-named q) t.vertices v ∙ (ap (λ b. b && wake_of (true_value P t q p v)) m
      ∙ (ap (λ b. wake_of (if (t.due v && not (hidden P t v)) && ((t.master v == q) && b) then Some (record { vertex = v; value = value_next P t v; wake = wakes_at P t v }) else None)) h ∙ (wake-true (t.due v && not (hidden P t v)) (t.master v == q) _
      ∙ ap (λ b. (t.master v == q) && b) ((λ i. (S.due_active v plain i && not (plain i)) && wakes_at P t v) ∙ (ap (λ b. b && wakes_at P t v) (and-true (t.state.active v)) ∙ and_self_left (t.state.active v) _)))))) in
      list_any-append _ (filter_map (own_line P t p) t.vertices) _
      ∙ (ap (λ b. b || woke_by (flat_map (λ q. true_values P t q p) others) v) own
      ∙ (ap (λ b. ((t.master v == p) && wakes_at P t v) || b)
      (list_any-flat_map _ (λ q. true_values P t q p) others ∙ (list_any-agree _ _ others (Each-always _ one others)
      ∙ (list_any-and (λ q. t.master v == q) (wakes_at P t v) others ∙ ap (λ b. b && wakes_at P t v) (list_any-is (t.master v) others))))
      ∙ either_way _ _ (wakes_at P t v) (one-place v m)))

  -- an edge of p into v whose source woke
  here-woke : ℕ → NumberedEdge → Bool
  here-woke v a = (a.edge.dst == v) && ((place_of t a == p) && wakes_at P t a.edge.src)

  signalled-at : (v : ℕ) → is_signalled all_lines (arcs_at t p) v ≡ list_any (here-woke v) t.edges
  unfolding arcs_at here-woke
  signalled-at v = list_any-filter _ _ (λ a. place_of t a == p) t.edges (Each-both _ _ _ (λ a there h. (
    (λ e. let e' : place_of t a ≡ p = eqb-true _ _ e in
        let h' : held t p a.edge.src ≡ true = sym (ap (λ q. held t q a.edge.src) e') ∙ h in
        rw (woke-at a.edge.src (and_right P.forgetful _ there.0) there.1 h', e) refl),
    (λ e. rw e (and_right (a.edge.dst == v) false refl)),
  )) t.edges readers S.sources_held)
    where
      readers : Each (λ a. ((true_outdegree t a.edge.src == 0) ≡ false) × (has t.vertices a.edge.src ≡ true)) t.edges
      readers = Each-both (λ a. (true_outdegree t a.edge.src == 0) ≡ false) (λ a. has t.vertices a.edge.src ≡ true) _ (λ a x y. (x, y)) t.edges N.reads S.sources

  -- no edge of p leads to a vertex that p does not hold
  not-signalled : (v : ℕ) → held t p v ≡ false → list_any (here-woke v) t.edges ≡ false
  unfolding here-woke
  not-signalled v k = list_any-none _ t.edges (Each-weaker _ _ (λ a h. by_test ((a.edge.dst == v) && ((place_of t a == p) && wakes_at P t a.edge.src))
      (λ e. let e1 = and_parts (a.edge.dst == v) _ e in
      let e2 = and_parts (place_of t a == p) _ e1.1 in
      let same : a.edge.dst ≡ v = eqb-true _ _ e1.0 in
      let at : place_of t a ≡ p = eqb-true _ _ e2.0 in
      let h' : held t p v ≡ true = sym (ap (λ q. held t q v) at) ∙ (sym (ap (held t (place_of t a)) same) ∙ h) in
      absurd (both_ways _ k h'))
      (λ e. e)) t.edges S.targets_held)

  pub signal-body_at : (q : ℕ) → signal_body all_lines (rows_at P t p) (arcs_at t p) q ≡ true_signals P t p q
  unfolding signal_body true_signals rows_at here-woke
  signal-body_at q = map-filter-map-filter (λ (c : VertexCopy V). c.vertex) (copy_at P t p) (λ v. refl) _ (held t p) _ t.vertices (Each-always _ (λ v. (
    (λ e. ap (λ b. (t.master v == q) && b) (signalled-at v)),
    (λ e. ap (λ b. (t.master v == q) && b) (not-signalled v e) ∙ and_right (t.master v == q) false refl),
  )) t.vertices)

  signals-any : (v : ℕ) → has t.vertices v ≡ true → t.master v ≡ p
      → has (flat_map (λ q. true_signals P t q p) others) v ≡ list_any (λ q. list_any (λ a. (a.edge.dst == v) && ((place_of t a == q) && wakes_at P t a.edge.src)) t.edges) others
  unfolding true_signals
  signals-any v there m = list_any-flat_map (λ x. x == v) (λ q. true_signals P t q p) others
      ∙ list_any-agree _ _ others (Each-always _ (λ q. has-filter _ t.vertices v
      ∙ (ap (λ b. b && ((t.master v == p) && list_any (λ a. (a.edge.dst == v) && ((place_of t a == q) && wakes_at P t a.edge.src)) t.edges)) there
      ∙ ap (λ b. b && list_any (λ a. (a.edge.dst == v) && ((place_of t a == q) && wakes_at P t a.edge.src)) t.edges) (eq-eqb (t.master v) p m))) others)

  -- the edges of all places
  one-edge : (v : ℕ) (a : NumberedEdge) → occurs (place_of t a) ps ≡ 1 → (here-woke v a || list_any (λ q. (a.edge.dst == v) && ((place_of t a == q) && wakes_at P t a.edge.src)) others) ≡ ((a.edge.dst == v) && wakes_at P t a.edge.src)
  unfolding here-woke
  one-edge v a o = by_test (a.edge.dst == v)
      (λ d. rw d (ap (λ b. ((place_of t a == p) && wakes_at P t a.edge.src) || b) (list_any-and (λ q. place_of t a == q) (wakes_at P t a.edge.src) others ∙ ap (λ b. b && wakes_at P t a.edge.src) (list_any-is (place_of t a) others))
      ∙ either_way (place_of t a == p) (has others (place_of t a)) (wakes_at P t a.edge.src) (somewhere (place_of t a) (has-from-occurs (place_of t a) ps (omega (arith, o))))))
      (λ d. rw d (list_any-none _ others (Each-always _ (λ q. refl) others)))

  next-from : (v : ℕ) (es : List NumberedEdge) → Each (λ a. occurs (place_of t a) ps ≡ 1) es
      → (list_any (here-woke v) es || list_any (λ q. list_any (λ a. (a.edge.dst == v) && ((place_of t a == q) && wakes_at P t a.edge.src)) es) others) ≡ list_any (λ a. (a.edge.dst == v) && wakes_at P t a.edge.src) es
  next-from v [] h = list_any-none _ others (Each-always _ (λ q. refl) others)
  next-from v (a ∷ es) h =
      ap (λ b. (here-woke v a || list_any (here-woke v) es) || b) (list_any-or (λ q. (a.edge.dst == v) && ((place_of t a == q) && wakes_at P t a.edge.src)) (λ q. list_any (λ a. (a.edge.dst == v) && ((place_of t a == q) && wakes_at P t a.edge.src)) es) others)
      ∙ (or-exchange (here-woke v a) (list_any (here-woke v) es) _ _
      ∙ (λ i. one-edge v a h.0 i || next-from v es h.1 i))

  -- the edges of the committed state without their numbers
  active-edges : (v : ℕ) → active_next P t v ≡ list_any (λ a. (a.edge.dst == v) && wakes_at P t a.edge.src) t.edges
  unfolding after_round
  active-edges v = unnumbered t.edges
    where
      unnumbered : (es : List NumberedEdge) → list_any (λ e. (e.dst == v) && wakes_at P t e.src) (map (λ (a : NumberedEdge). a.edge) es) ≡ list_any (λ a. (a.edge.dst == v) && wakes_at P t a.edge.src) es
      unnumbered [] = refl
      unnumbered (a ∷ es) = ap (λ b. ((a.edge.dst == v) && wakes_at P t a.edge.src) || b) (unnumbered es)

  -- the vertices due next that p masters, by its own edges and by the Signal batches
  unfoldable pub own_due : List ℕ
  own_due = signal_body all_lines (rows_at P t p) (arcs_at t p) p ++ flat_map (λ q. true_signals P t q p) others

  pub has-own_due : (v : ℕ) → has t.vertices v ≡ true → t.master v ≡ p → has own_due v ≡ active_next P t v
  unfolding own_due true_signals here-woke
  has-own_due v there m =
      list_any-append (λ x. x == v) (signal_body all_lines (rows_at P t p) (arcs_at t p) p) _
      ∙ (ap (λ b. b || has (flat_map (λ q. true_signals P t q p) others) v)
      (ap (λ l. has l v) (signal-body_at p) ∙ (has-filter _ t.vertices v
      ∙ (ap (λ b. b && ((t.master v == p) && list_any (here-woke v) t.edges)) there ∙ ap (λ b. b && list_any (here-woke v) t.edges) (eq-eqb (t.master v) p m))))
      ∙ (ap (λ b. list_any (here-woke v) t.edges || b) (signals-any v there m) ∙ (next-from v t.edges placed ∙ sym (active-edges v))))

  pub call-body_at : (q : ℕ) → call_body own_due (rows_at P t p) p q ≡ true_calls P t p q
  unfolding call_body true_calls rows_at
  call-body_at q = map-filter-map-filter (λ (c : VertexCopy V). c.vertex) (copy_at P t p) (λ v. refl) _ (held t p) _ t.vertices (Each-has _ t.vertices (λ v there. (
    (λ e. by_test (t.master v == p)
        (λ m. ap (λ b. (t.master v == p) && (b && held t q v)) (has-own_due v there (eqb-true _ _ m)) ∙ swapped (t.master v == p) (active_next P t v) (held t q v))
        (λ m. rw m (sym (and_right (active_next P t v) false refl)))),
    (λ e. by_test (t.master v == p)
        (λ m. absurd (both_ways _ e (held-here P t p L S N v there (eqb-true _ _ m))))
        (λ m. rw m (and_right (active_next P t v) false refl))),
  )))
    where
      swapped : (m a h : Bool) → (m && (a && h)) ≡ (a && (m && h))
      swapped true a h = refl
      swapped false true h = refl
      swapped false false h = refl
