-- What the stages Signal and End stage, where rows, edges and batches are those of the committed state.
use Rattle.std.proofs.Common.{◌≡◌, ℕ, List, [], ◌∷◌, ◌++◌, Bool, true, false, not, ◌==◌, ◌&&◌, ◌||◌, find, flat_map, refl, sym, ap, ◌∙◌, Option, Some, None, if◌then◌else◌, eqb-true}
use Rattle.std.specs.List.{AllByRecursion as Each, list_any}
use Rattle.std.proofs.Math.Bool.{and-false}
use Rattle.std.proofs.lemmas.List.Folds.{list_any-append}
use Rattle.gr_base.specs.Rising.{has}
use Rattle.gr_base.specs.Places.{without_place}
use Rattle.gr_program.specs.declared.copy.VertexCopy.{VertexCopy}
use Rattle.gr_program.specs.Program.{Program}
use Rattle.gr_program.specs.ProgramLaws.{ProgramLaws}
use Rattle.gr_program.specs.Rounds.{gathered}
use Rattle.gr_batch.specs.declared.body.NewValue.{NewValue}
use Rattle.gr_rules.specs.Rows.{with_value, with_values, with_due}
use Rattle.gr_rules.specs.Round.{signal_body}
use Rattle.gr_agree.specs.Truth.{Truth, edge_list, true_indegree, true_outdegree, held, place_of, arcs_at, hidden, rows_at}
use Rattle.gr_agree.specs.TrueRound.{value_next, wakes_at, active_next, copy_staged, staged, true_value, true_values, true_signals, true_calls}
use Rattle.gr_agree.specs.Logs.{Sound}
use Rattle.gr_lists.proofs.Tests.{by_test}
use Rattle.gr_lists.proofs.Choices.{either_way, or_else}
use Rattle.gr_lists.proofs.Each.{Each-has, Each-always}
use Rattle.gr_lists.proofs.Any.{list_any-agree, list_any-and, list_any-flat_map, list_any-is, has-filter}
use Rattle.gr_lists.proofs.Selections.{map-map-filter, find-append, find-filter_map}
use Rattle.gr_law_rounds.proofs.Bodies.Fold.{occurs}
use Rattle.gr_law_rounds.proofs.Bodies.Steady.{Steady}
use Rattle.gr_law_rounds.proofs.Bodies.Signals.{one-place, true_value-named, all_lines, own_due, has-own_due, signal-body_at}

module _ {V A : Type 0} (P : Program V A) (t : Truth V) (L : ProgramLaws P) (S : Sound P t) (N : Steady P t) (p : ℕ) (ps : List ℕ)
    (mastered : (v : ℕ) → has t.vertices v ≡ true → has ps (t.master v) ≡ true) (once : occurs p ps ≡ 1) (placed : Each (λ a. occurs (place_of t a) ps ≡ 1) t.edges) where
  abbrev others : List ℕ
  others = without_place ps p

  -- all that are due next at p
  all-due : List ℕ
  all-due = own_due P t L S N p ps mastered once placed ++ flat_map (λ q. true_calls P t q p) others

  -- the vertices due next that p masters: those that p's edges signal, and those of the Signal batches
  has-own : (v : ℕ) → has t.vertices v ≡ true → t.master v ≡ p → has (own_due P t L S N p ps mastered once placed) v ≡ active_next P t v
  has-own = has-own_due P t L S N p ps mastered once placed

  -- of the vertices that p masters alone
  own-mastered : (v : ℕ) → has t.vertices v ≡ true → (t.master v == p) ≡ false → has (own_due P t L S N p ps mastered once placed) v ≡ false
  unfolding own_due true_signals
  own-mastered v there m =
      list_any-append (λ x. x == v) (signal_body (all_lines P t L S N p ps mastered once placed) (rows_at P t p) (arcs_at t p) p) _
      ∙ (ap (λ b. b || has (flat_map (λ q. true_signals P t q p) others) v)
      (ap (λ l. has l v) (signal-body_at P t L S N p ps mastered once placed p) ∙ (has-filter _ t.vertices v ∙ (ap (λ b. has t.vertices v && (b && list_any (λ a. (a.edge.dst == v) && ((place_of t a == p) && wakes_at P t a.edge.src)) t.edges)) m ∙ and-false (has t.vertices v))))
      ∙ (list_any-flat_map (λ x. x == v) (λ q. true_signals P t q p) others
      ∙ (list_any-agree _ (λ q. false) others (Each-always _ (λ q. has-filter _ t.vertices v ∙ (ap (λ b. has t.vertices v && (b && list_any (λ a. (a.edge.dst == v) && ((place_of t a == q) && wakes_at P t a.edge.src)) t.edges)) m ∙ and-false (has t.vertices v))) others)
      ∙ none others)))
    where
      none : (qs : List ℕ) → list_any (λ q. false) qs ≡ false
      none [] = refl
      none (q ∷ qs) = none qs

  due-at : (v : ℕ) → has t.vertices v ≡ true → held t p v ≡ true → has all-due v ≡ active_next P t v
  unfolding true_calls all-due
  due-at v there h =
      let own : has (own_due P t L S N p ps mastered once placed) v ≡ ((t.master v == p) && active_next P t v) = by_test (t.master v == p)
      (λ m. has-own v there (eqb-true _ _ m) ∙ ap (λ b. b && active_next P t v) (sym m))
      (λ m. own-mastered v there m ∙ ap (λ b. b && active_next P t v) (sym m)) in
      let one : (q : ℕ) → has (true_calls P t q p) v ≡ ((t.master v == q) && active_next P t v) = (λ q.
      has-filter _ t.vertices v ∙ (ap (λ b. b && (active_next P t v && ((t.master v == q) && held t p v))) there
      ∙ (ap (λ b. active_next P t v && ((t.master v == q) && b)) h ∙ turned (active_next P t v) (t.master v == q)))) in
      list_any-append _ (own_due P t L S N p ps mastered once placed) _
      ∙ (ap (λ b. b || has (flat_map (λ q. true_calls P t q p) others) v) own
      ∙ (ap (λ b. ((t.master v == p) && active_next P t v) || b)
      (list_any-flat_map _ (λ q. true_calls P t q p) others ∙ (list_any-agree _ _ others (Each-always _ one others)
      ∙ (list_any-and (λ q. t.master v == q) (active_next P t v) others ∙ ap (λ b. b && active_next P t v) (list_any-is (t.master v) others))))
      ∙ either_way _ _ (active_next P t v) (one-place P t L S N p ps mastered once placed v there)))
    where
      turned : (a m : Bool) → (a && (m && true)) ≡ (m && a)
      turned true true = refl
      turned true false = refl
      turned false true = refl
      turned false false = refl

  -- what computing the end stages
  pub end-staged : with_due (own_due P t L S N p ps mastered once placed ++ flat_map (λ q. true_calls P t q p) others) (staged P t p 4) ≡ staged P t p 5
  unfolding with_due staged all-due
  end-staged = map-map-filter _ (copy_staged P t p 4) (copy_staged P t p 5) (held t p) t.vertices (Each-has _ t.vertices (λ v there h.
      ap (λ (b : Bool). record (copy_staged P t p 4 v) { due = b }) (due-at v there h)))

  line : ℕ → NewValue V
  line v = record { vertex = v; value = value_next P t v; wake = wakes_at P t v }

  -- the value of a vertex among the Update bodies
  found-line : (v : ℕ) → has t.vertices v ≡ true → held t p v ≡ true → (qs : List ℕ)
      → find (λ n. n.vertex == v) (flat_map (λ q. true_values P t q p) qs) ≡ (if (t.due v && not (hidden P t v)) && list_any (λ q. t.master v == q) qs then Some (line v) else None)
  unfolding true_values line
  found-line v there h [] = none (t.due v && not (hidden P t v))
    where
      none : (a : Bool) → None ≡ (if a && false then Some (line v) else None)
      none true = refl
      none false = refl
  found-line v there h (q ∷ qs) =
      find-append _ (true_values P t q p) _
      ∙ (ap (λ o. or_else o (find (λ n. n.vertex == v) (flat_map (λ r. true_values P t r p) qs)))
      (find-filter_map (λ (l : NewValue V). l.vertex) (true_value P t q p) (true_value-named P t L S N p ps mastered once placed q) t.vertices v
      ∙ (ap (λ b. if b then true_value P t q p v else None) there ∙ ap (λ b. if (t.due v && not (hidden P t v)) && ((t.master v == q) && b) then Some (line v) else None) h))
      ∙ (ap (or_else (if (t.due v && not (hidden P t v)) && ((t.master v == q) && true) then Some (line v) else None)) (found-line v there h qs)
      ∙ joins (t.due v && not (hidden P t v)) (t.master v == q) (list_any (λ r. t.master v == r) qs)))
    where
      joins : (a m r : Bool) → or_else (if a && (m && true) then Some (line v) else None) (if a && r then Some (line v) else None) ≡ (if a && (m || r) then Some (line v) else None)
      joins true true r = refl
      joins true false r = refl
      joins false m r = refl

  shape : ℕ → Option V → VertexCopy V
  shape v o = record { vertex = v; indeg = true_indegree t v; outdeg = true_outdegree t v; master = t.master v; holders = t.holders v; value = o; due = t.due v }

  -- due, active, hidden, mastered here, kept, mastered elsewhere
  third : (d a h m k r : Bool) (v : ℕ) (x y : V) (w : Bool) → (m || r) ≡ true → (h ≡ false → d ≡ a) → (a ≡ false → y ≡ x)
      → with_value (if (d && not h) && r then Some (record { vertex = v; value = y; wake = w }) else None) (shape v (if h then (if true && m then Some y else if m && k then Some x else None) else Some (if (true && m) || false then y else x)))
      ≡ shape v (if h then (if true && m then Some y else if m && k then Some x else None) else Some (if (true && m) || true then y else x))
  unfolding shape
  third true a true true k r v x y w e f n = refl
  third true a true false true r v x y w e f n = refl
  third true a true false false r v x y w e f n = refl
  third true a false true k true v x y w e f n = refl
  third true a false true k false v x y w e f n = refl
  third true a false false k true v x y w e f n = refl
  third true a false false k false v x y w e f n = absurd (let bad : false ≡ true = e in cc)
  third false a true true k r v x y w e f n = refl
  third false a true false true r v x y w e f n = refl
  third false a true false false r v x y w e f n = refl
  third false a false true k r v x y w e f n = refl
  third false a false false k r v x y w e f n = ap (λ z. shape v (Some z)) (sym (n (sym (f refl))))

  -- what computing Signal stages
  pub signal-staged : with_values (flat_map (λ q. true_values P t q p) others) (staged P t p 2) ≡ staged P t p 3
  unfolding with_values staged line shape
  signal-staged = map-map-filter _ (copy_staged P t p 2) (copy_staged P t p 3) (held t p) t.vertices (Each-has _ t.vertices (λ v there h.
      ap (λ o. with_value o (copy_staged P t p 2 v)) (found-line v there h others)
      ∙ (ap (λ b. with_value (if (t.due v && not (hidden P t v)) && b then Some (line v) else None) (copy_staged P t p 2 v)) (list_any-is (t.master v) others)
      ∙ third (t.due v) (t.state.active v) (hidden P t v) (t.master v == p) (t.kept v) (has others (t.master v)) v (t.state.value v) (value_next P t v) _ (one-place P t L S N p ps mastered once placed v there)
      (S.due_active v)
      (λ a. ap (λ b. if b then P.apply v (t.state.value v) (gathered P (edge_list t) t.state.value v) else t.state.value v) a))))
