-- The new values that a place computes and sends, where its rows, edges and batches are those of the committed state.
use Rattle.std.proofs.Common.{◌≡◌, ℕ, List, [], ◌∷◌, Bool, true, false, not, ◌==◌, ◌&&◌, ◌||◌, map, filter_map, refl, sym, ap, ◌∙◌, Option, Some, None, if◌then◌else◌, eqb-true}
use Rattle.std.specs.Prelude.{IsTrue, unwrap_or}
use Rattle.std.specs.List.{AllByRecursion as Each, find}
use Rattle.std.proofs.lemmas.Bool.{and_parts, both_ways}
use Rattle.gr_base.specs.Rising.{has}
use Rattle.gr_base.specs.Places.{without_place}
use Rattle.gr_program.specs.declared.copy.VertexCopy.{VertexCopy}
use Rattle.gr_program.specs.Program.{Program}
use Rattle.gr_program.specs.ProgramLaws.{ProgramLaws}
use Rattle.gr_program.specs.Rounds.{gathered}
use Rattle.gr_batch.specs.declared.body.NewValue.{NewValue}
use Rattle.gr_batch.specs.declared.body.Body.{Body}
use Rattle.gr_rules.specs.Rows.{with_value, with_values}
use Rattle.gr_rules.specs.Round.{new_value, new_values, update_body}
use Rattle.gr_agree.specs.Truth.{Truth, edge_list, true_indegree, true_outdegree, held, held_at, place_of, arcs_at, hidden, copy_at, rows_at}
use Rattle.gr_agree.specs.TrueRound.{value_next, wakes_at, copy_staged, staged, true_value, true_values}
use Rattle.gr_agree.specs.Logs.{Sound}
use Rattle.gr_lists.proofs.Tests.{by_test}
use Rattle.gr_lists.proofs.Each.{Each-has}
use Rattle.gr_lists.proofs.Selections.{map-map-filter, filter_map-map-filter, find-filter_map}
use Rattle.gr_law_rounds.proofs.Bodies.Fold.{occurs}
use Rattle.gr_law_rounds.proofs.Bodies.Steady.{Steady}
use Rattle.gr_law_rounds.proofs.Bodies.Rows.{gathers_of, gathered-kept, whole-sum_at, held-here}

module _ {V A : Type 0} (P : Program V A) (t : Truth V) (p : ℕ) where
  -- the old value of a vertex that p masters: the first one where none is kept
  abbrev pub old_at : ℕ → V
  old_at v = unwrap_or (if hidden P t v && not ((t.master v == p) && t.kept v) then None else Some (t.state.value v)) (P.start v (true_indegree t v) (true_outdegree t v))

  abbrev line : ℕ → V → NewValue V
  line v x = record { vertex = v; value = x; wake = P.wakes (old_at v) x }

  -- the new value of a due vertex that p masters
  unfoldable pub own_line : ℕ → Option (NewValue V)
  own_line v = if t.due v && (t.master v == p) then Some (line v (value_next P t v)) else None

  pub own_line-named : (u : ℕ) (n : NewValue V) → own_line u ≡ Some n → n.vertex ≡ u
  unfolding own_line
  own_line-named u n e = by_test (t.due u && (t.master u == p))
      (λ k. let e' = rw k at e in cc)
      (λ k. let e' = rw k at e in cc)

  -- a copy by its value
  shape : ℕ → Option V → VertexCopy V
  shape v o = record { vertex = v; indeg = true_indegree t v; outdeg = true_outdegree t v; master = t.master v; holders = t.holders v; value = o; due = t.due v }

  -- due, active, hidden, mastered here, kept
  second : (d a h m k : Bool) (v : ℕ) (x y : V) (w : Bool) → (h ≡ false → d ≡ a) → (d ≡ false → k ≡ true) → (a ≡ true → d ≡ true) → (a ≡ false → y ≡ x)
      → with_value (if d && m then Some (record { vertex = v; value = y; wake = w }) else None) (shape v (if h then (if false && m then Some y else if m && k then Some x else None) else Some (if (false && m) || false then y else x)))
      ≡ shape v (if h then (if true && m then Some y else if m && k then Some x else None) else Some (if (true && m) || false then y else x))
  unfolding shape
  second true a true true k v x y w f g i n = refl
  second true a true false k v x y w f g i n = refl
  second true a false true k v x y w f g i n = refl
  second true a false false k v x y w f g i n = refl
  second false true h m k v x y w f g i n = absurd (let bad : false ≡ true = i refl in cc)
  second false false true true true v x y w f g i n = ap (λ z. shape v (Some z)) (sym (n refl))
  second false false true true false v x y w f g i n = absurd (let bad : false ≡ true = g refl in cc)
  second false false true false k v x y w f g i n = refl
  second false false false true k v x y w f g i n = ap (λ z. shape v (Some z)) (sym (n refl))
  second false false false false k v x y w f g i n = refl

  module _ (L : ProgramLaws P) (S : Sound P t) (N : Steady P t) where
    old-kept : (v : ℕ) → has t.vertices v ≡ true → IsTrue (P.is_value (old_at v))
    old-kept v there = by_test (hidden P t v && not ((t.master v == p) && t.kept v))
        (λ e. rw e (L.start_kept v _ _ (N.ids v there)))
        (λ e. rw e (N.values v there))

    -- a due vertex, applied to whatever value is kept, gets its next value
    recomputed : (v : ℕ) → has t.vertices v ≡ true → t.due v ≡ true → P.apply v (old_at v) (gathered P (edge_list t) t.state.value v) ≡ value_next P t v
    recomputed v there d = by_test (hidden P t v)
        (λ h. by_test (t.state.active v)
        (λ a. L.apply_forgets (and_parts P.forgetful _ h).0 v (old_at v) (t.state.value v) (gathered P (edge_list t) t.state.value v) (old-kept v there) (N.values v there) (gathered-kept P t p L S N v)
        ∙ ap (λ b. if b then P.apply v (t.state.value v) (gathered P (edge_list t) t.state.value v) else t.state.value v) (sym a))
        (λ a. N.fresh v (old_at v) there (old-kept v there) h a ∙ ap (λ b. if b then P.apply v (t.state.value v) (gathered P (edge_list t) t.state.value v) else t.state.value v) (sym a)))
        (λ h. let a : t.state.active v ≡ true = sym (S.due_active v h) ∙ d in
        ap (λ b. P.apply v (unwrap_or (if b && not ((t.master v == p) && t.kept v) then None else Some (t.state.value v)) (P.start v (true_indegree t v) (true_outdegree t v))) (gathered P (edge_list t) t.state.value v)) h
        ∙ ap (λ b. if b then P.apply v (t.state.value v) (gathered P (edge_list t) t.state.value v) else t.state.value v) (sym a))

    module _ (ps : List ℕ) (once : occurs p ps ≡ 1) (placed : Each (λ a. occurs (place_of t a) ps ≡ 1) t.edges) where
      abbrev gathers : List (Body V A)
      gathers = gathers_of P t p (without_place ps p)

      pub new-value_at : (v : ℕ) → has t.vertices v ≡ true → t.master v ≡ p → t.due v ≡ true → new_value P (rows_at P t p) (arcs_at t p) gathers (copy_at P t p v) ≡ line v (value_next P t v)
      new-value_at v there m d = ap (λ s. line v (P.apply v (old_at v) s)) (whole-sum_at P t p L S N ps once placed v there m d) ∙ ap (line v) (recomputed v there d)

      pub new-values_at : new_values P p (rows_at P t p) (arcs_at t p) gathers ≡ filter_map own_line t.vertices
      unfolding new_values rows_at own_line
      new-values_at = filter_map-map-filter _ (copy_at P t p) own_line (held t p) t.vertices (Each-has _ t.vertices (λ v there. (
        (λ e. by_test (t.due v && (t.master v == p))
            (λ k. let m = and_parts (t.due v) (t.master v == p) k in
            let m' : t.master v ≡ p = eqb-true _ _ m.1 in
            rw k (ap Some (new-value_at v there m' m.0)))
            (λ k. rw k refl)),
        (λ e. by_test (t.due v && (t.master v == p))
            (λ k. let m = and_parts (t.due v) (t.master v == p) k in
            let m' : t.master v ≡ p = eqb-true _ _ m.1 in
            absurd (both_ways _ e (held-here P t p L S N v there m')))
            (λ k. rw k refl)),
      )))

      -- what computing Update stages
      pub update-staged : with_values (new_values P p (rows_at P t p) (arcs_at t p) gathers) (staged P t p 1) ≡ staged P t p 2
      unfolding with_values staged own_line shape
      update-staged = map-map-filter _ (copy_staged P t p 1) (copy_staged P t p 2) (held t p) t.vertices (Each-has _ t.vertices (λ v m e.
          ap (λ ns. with_value (find (λ n. n.vertex == v) ns) (copy_staged P t p 1 v)) new-values_at
          ∙ (ap (λ o. with_value o (copy_staged P t p 1 v)) (find-filter_map (λ (l : NewValue V). l.vertex) own_line own_line-named t.vertices v)
          ∙ (ap (λ b. with_value (if b then own_line v else None) (copy_staged P t p 1 v)) m
          ∙ second (t.due v) (t.state.active v) (hidden P t v) (t.master v == p) (t.kept v) v (t.state.value v) (value_next P t v) _ (S.due_active v) (S.not_due_kept v) (S.active_due v)
          (λ a. ap (λ b. if b then P.apply v (t.state.value v) (gathered P (edge_list t) t.state.value v) else t.state.value v) a)))))

      true-line : ℕ → NewValue V
      true-line v = record { vertex = v; value = value_next P t v; wake = wakes_at P t v }

      -- the new value of a vertex that is not hidden tells whether it wakes
      plain-line : (v : ℕ) → hidden P t v ≡ false → t.due v ≡ true → line v (value_next P t v) ≡ true-line v
      unfolding true-line
      plain-line v h d = let a : t.state.active v ≡ true = sym (S.due_active v h) ∙ d in
          ap (λ b. record { vertex = v; value = value_next P t v; wake = P.wakes (unwrap_or (if b && not ((t.master v == p) && t.kept v) then None else Some (t.state.value v)) (P.start v (true_indegree t v) (true_outdegree t v))) (value_next P t v) }) h
          ∙ ap (λ b. record { vertex = v; value = value_next P t v; wake = b && P.wakes (t.state.value v) (value_next P t v) }) (sym a)

      body-line : (q v : ℕ) → has t.vertices v ≡ true
          → (if (t.due v && (t.master v == p)) && (held t q v && not (hidden P t v)) then Some (new_value P (rows_at P t p) (arcs_at t p) gathers (copy_at P t p v)) else None) ≡ true_value P t p q v
      unfolding true-line
      body-line q v there = chosen (t.due v) (t.master v == p) (held t q v) (hidden P t v)
          (λ d m h. new-value_at v there (eqb-true _ _ m) d ∙ plain-line v h d)
        where
          chosen : {X : Type 0} {x y : X} (d m k h : Bool) → (d ≡ true → m ≡ true → h ≡ false → x ≡ y) → (if (d && m) && (k && not h) then Some x else None) ≡ (if (d && not h) && (m && k) then Some y else None)
          chosen true true true true f = refl
          chosen true true true false f = ap Some (f refl refl refl)
          chosen true true false true f = refl
          chosen true true false false f = refl
          chosen true false k true f = refl
          chosen true false k false f = refl
          chosen false m k h f = refl

      not-mine : (q v : ℕ) → has t.vertices v ≡ true → held t p v ≡ false → true_value P t p q v ≡ None
      not-mine q v there e = by_test ((t.due v && not (hidden P t v)) && ((t.master v == p) && held t q v))
          (λ k. let m = and_parts (t.due v && not (hidden P t v)) ((t.master v == p) && held t q v) k in
          let m' : t.master v ≡ p = eqb-true _ _ (and_parts (t.master v == p) (held t q v) m.1).0 in
          absurd (both_ways _ e (held-here P t p L S N v there m')))
          (λ k. rw k refl)

      pub update-body_at : (q : ℕ) → update_body P p q (rows_at P t p) (arcs_at t p) gathers ≡ true_values P t p q
      unfolding update_body true_values rows_at
      update-body_at q = filter_map-map-filter _ (copy_at P t p) (true_value P t p q) (held t p) t.vertices
          (Each-has _ t.vertices (λ v there. ((λ e. body-line q v there), (λ e. not-mine q v there e))))

-- the rows that count are those before anything is staged, also once Gather is computed, which stages nothing
module _ {V A : Type 0} (P : Program V A) (t : Truth V) (p : ℕ) where
  pub rows-staged : (rows_at P t p ≡ staged P t p 0) × (staged P t p 0 ≡ staged P t p 1) × (staged P t p 3 ≡ staged P t p 4)
  unfolding rows_at staged
  rows-staged = (map-same (held_at t p), refl, refl)
    where
      same : (h b : Bool) (x y : V) → (if h && not b then None else Some x) ≡ (if h then (if false then Some y else if b then Some x else None) else Some (if false || false then y else x))
      same true true x y = refl
      same true false x y = refl
      same false b x y = refl

      map-same : (vs : List ℕ) → map (copy_at P t p) vs ≡ map (copy_staged P t p 0) vs
      map-same [] = refl
      map-same (v ∷ vs) = λ i. record {
        vertex = v;
        indeg = true_indegree t v;
        outdeg = true_outdegree t v;
        master = t.master v;
        holders = t.holders v;
        value = same (hidden P t v) ((t.master v == p) && t.kept v) (t.state.value v) (value_next P t v) i;
        due = t.due v;
      } ∷ map-same vs i
