-- What a place's rows and edges give, where they are those of the committed state.
use Rattle.std.proofs.Common.{◌≡◌, ℕ, List, [], ◌∷◌, Bool, true, false, cond, arith, not, ◌==◌, ◌&&◌, map, filter, filter_map, refl, sym, ap, ◌∙◌, subst, Some, None, if◌then◌else◌, eqb-true, eq-eqb}
use Rattle.std.specs.Prelude.{IsTrue, option_map}
use Rattle.std.specs.List.{AllByRecursion as Each, list_any, cons_option, fold}
use Rattle.std.proofs.lemmas.Bool.{both_ways, and_right, eqb-false}
use Rattle.gr_base.specs.declared.records.NumberedEdge.{NumberedEdge}
use Rattle.gr_base.specs.Rising.{has}
use Rattle.gr_base.specs.Places.{without_place}
use Rattle.gr_program.specs.Program.{Program, total}
use Rattle.gr_program.specs.ProgramLaws.{ProgramLaws}
use Rattle.gr_program.specs.Rounds.{contribution, gathered}
use Rattle.gr_batch.specs.declared.body.Part.{Part}
use Rattle.gr_batch.specs.declared.body.Body.{Body}
use Rattle.gr_batch.specs.declared.body.Body.TheVariants as body
use Rattle.gr_program.specs.declared.copy.VertexCopy.{VertexCopy}
use Rattle.gr_rules.specs.Rows.{row, into}
use Rattle.gr_rules.specs.Round.{part_for, along_value, along_row, own_sum, gather_body, whole_sum}
use Rattle.gr_agree.specs.Truth.{Truth, edge_list, true_outdegree, high, held, place_of, arcs_at, hidden, copy_at, rows_at}
use Rattle.gr_agree.specs.TrueRound.{copy_staged, staged, part_sum, true_part, true_parts}
use Rattle.gr_agree.specs.Logs.{Sound}
use Rattle.gr_lists.proofs.Tests.{by_test}
use Rattle.gr_lists.proofs.Each.{Each-both, Each-weaker, Each-always, Each-filter}
use Rattle.gr_lists.proofs.Any.{list_any-filter_none, filter-none}
use Rattle.gr_lists.proofs.Selections.{map-filter-filter-agree, filter-filter-within, filter-swap, filter_map-map-filter, find-filter_map}
use Rattle.gr_law_rounds.proofs.Bodies.Fold.{occurs, joined, total-joined, fold-joined, joined-kept, joined-by_place, joined-extract, joined-some}
use Rattle.gr_law_rounds.proofs.Bodies.Steady.{Steady}

-- the Gather bodies of the places qs to p
unfoldable pub gathers_of : {V A : Type 0} → Program V A → Truth V → ℕ → List ℕ → List (Body V A)
gathers_of P t p qs = map (λ q. body.Gather (true_parts P t q p)) qs

module _ {V A : Type 0} (P : Program V A) (t : Truth V) where
  -- what an edge brings to its target
  abbrev pub brings : NumberedEdge → A
  brings a = contribution P (edge_list t) t.state.value a.edge

  map-filter-edges : (v : ℕ) (es : List NumberedEdge) → map (contribution P (edge_list t) t.state.value) (filter (λ e. e.dst == v) (map (λ (a : NumberedEdge). a.edge) es)) ≡ map brings (filter (into v) es)
  map-filter-edges v [] = refl
  map-filter-edges v (a ∷ es) = by_test (a.edge.dst == v)
      (λ e. rw e (ap (λ r. brings a ∷ r) (map-filter-edges v es)))
      (λ e. rw e (map-filter-edges v es))

  pub gathered-edges : (v : ℕ) → gathered P (edge_list t) t.state.value v ≡ total P (map brings (filter (into v) t.edges))
  gathered-edges v = ap (total P) (map-filter-edges v t.edges)

module _ {V A : Type 0} (P : Program V A) (t : Truth V) (p : ℕ) where
  -- the copy of a vertex that p holds, among copies that are made of each
  row-map : (f : ℕ → VertexCopy V) → ((u : ℕ) → (f u).vertex ≡ u) → (vs : List ℕ) (v : ℕ) → has vs v ≡ true → held t p v ≡ true → row (map f (filter (held t p) vs)) v ≡ Some (f v)
  row-map f named [] v m h = absurd (let bad : false ≡ true = m in cc)
  row-map f named (u ∷ vs) v m h = by_test (u == v)
      (λ e. let same : u ≡ v = eqb-true u v e in
      let hu : held t p u ≡ true = ap (held t p) same ∙ h in
      let e' : ((f u).vertex == v) ≡ true = ap (λ x. x == v) (named u) ∙ e in
      rw (hu, e') (ap (λ x. Some (f x)) same))
      (λ e. let m' : has vs v ≡ true = rw e at m in
      let e' : ((f u).vertex == v) ≡ false = ap (λ x. x == v) (named u) ∙ e in by_test (held t p u)
      (λ k. rw (k, e') (row-map f named vs v m' h))
      (λ k. rw k (row-map f named vs v m' h)))

  pub row-rows_at : (v : ℕ) → has t.vertices v ≡ true → held t p v ≡ true → row (rows_at P t p) v ≡ Some (copy_at P t p v)
  unfolding rows_at
  row-rows_at v m h = row-map (copy_at P t p) (λ u. refl) t.vertices v m h

  pub row-staged : (k v : ℕ) → has t.vertices v ≡ true → held t p v ≡ true → row (staged P t p k) v ≡ Some (copy_staged P t p k v)
  unfolding staged
  row-staged k v m h = row-map (copy_staged P t p k) (λ u. refl) t.vertices v m h

  module _ (L : ProgramLaws P) (S : Sound P t) (N : Steady P t) where
    -- what an edge of p brings
    along-row_at : (a : NumberedEdge) → (true_outdegree t a.edge.src == 0) ≡ false → has t.vertices a.edge.src ≡ true → held t (place_of t a) a.edge.src ≡ true → place_of t a ≡ p
        → along_row P (row (rows_at P t p) a.edge.src) a.edge.weight ≡ brings P t a
    along-row_at a reads m h e = let h' : held t p a.edge.src ≡ true = sym (ap (λ q. held t q a.edge.src) e) ∙ h in
        let plain : hidden P t a.edge.src ≡ false = and_right P.forgetful _ reads in
        ap (λ r. along_row P r a.edge.weight) (row-rows_at a.edge.src m h')
        ∙ ap (λ b. along_value P (if b && not ((t.master a.edge.src == p) && t.kept a.edge.src) then None else Some (t.state.value a.edge.src)) a.edge.weight (true_outdegree t a.edge.src)) plain

    pub place-of-low : (v : ℕ) (a : NumberedEdge) → high t v ≡ false → into v a ≡ true → t.master v ≡ p → place_of t a ≡ p
    place-of-low v a low e m =
        let same : a.edge.dst ≡ v = eqb-true a.edge.dst v e in
        let low' : high t a.edge.dst ≡ false = ap (high t) same ∙ low in ap (λ b. cond b (t.master a.edge.src) (t.master a.edge.dst)) low' ∙ (ap t.master same ∙ m)

    known : Each (λ a. ((true_outdegree t a.edge.src == 0) ≡ false) × (has t.vertices a.edge.src ≡ true)) t.edges
    known = Each-both (λ a. (true_outdegree t a.edge.src == 0) ≡ false) (λ a. has t.vertices a.edge.src ≡ true) _ (λ a x y. (x, y)) t.edges N.reads S.sources

    -- the sum over p's edges into v
    pub own-sum_at : (v : ℕ) → own_sum P (rows_at P t p) (arcs_at t p) v ≡ part_sum P t p v
    unfolding own_sum arcs_at part_sum
    own-sum_at v = ap (total P) (map-filter-filter-agree (λ a. along_row P (row (rows_at P t p) a.edge.src) a.edge.weight) (brings P t) (into v) (λ a. place_of t a == p) t.edges
        (Each-both _ _ _ (λ a k h e. along-row_at a k.0 k.1 h (eqb-true (place_of t a) p e)) t.edges known S.sources_held))

    pub brings-kept : Each (λ a. IsTrue (P.is_acc (brings P t a))) t.edges
    brings-kept = Each-weaker _ _ (λ a k. L.along_kept (t.state.value a.edge.src) a.edge.weight (true_outdegree t a.edge.src) (N.values a.edge.src k.1) (let some = eqb-false (true_outdegree t a.edge.src) 0 k.0 in omega arith)) t.edges known

    sums-kept : (es : List NumberedEdge) → Each (λ a. IsTrue (P.is_acc (brings P t a))) es → Each (λ x. IsTrue (P.is_acc x)) (map (brings P t) es)
    sums-kept [] h = tt
    sums-kept (a ∷ es) h = (h.0, sums-kept es h.1)

    sums-into : (v : ℕ) (es : List NumberedEdge) → Each (λ a. IsTrue (P.is_acc (brings P t a))) es → Each (λ x. IsTrue (P.is_acc x)) (map (brings P t) (filter (into v) es))
    sums-into v es h = sums-kept (filter (into v) es) (Each-filter _ (into v) es h)

    gathered-joined : (v : ℕ) → gathered P (edge_list t) t.state.value v ≡ joined P (map (brings P t) (filter (into v) t.edges))
    gathered-joined v = gathered-edges P t v ∙ total-joined P L _ (sums-into v t.edges brings-kept)

    pub gathered-kept : (v : ℕ) → IsTrue (P.is_acc (gathered P (edge_list t) t.state.value v))
    gathered-kept v = subst (λ x. IsTrue (P.is_acc x)) (sym (gathered-joined v)) (joined-kept P L _ (sums-into v t.edges brings-kept))

    at-place : (q : ℕ) → Each (λ a. IsTrue (P.is_acc (brings P t a))) (filter (λ a. place_of t a == q) t.edges)
    at-place q = Each-filter _ (λ a. place_of t a == q) t.edges brings-kept

    pub part-joined : (q v : ℕ) → part_sum P t q v ≡ joined P (map (brings P t) (filter (into v) (filter (λ a. place_of t a == q) t.edges)))
    unfolding part_sum arcs_at
    part-joined q v = total-joined P L _ (sums-into v _ (at-place q))

    pub part-kept : (q v : ℕ) → IsTrue (P.is_acc (part_sum P t q v))
    part-kept q v = subst (λ x. IsTrue (P.is_acc x)) (sym (part-joined q v)) (joined-kept P L _ (sums-into v _ (at-place q)))

    -- a vertex that is low has all its edges here
    low-sum : (v : ℕ) → high t v ≡ false → t.master v ≡ p → part_sum P t p v ≡ gathered P (edge_list t) t.state.value v
    low-sum v low m = part-joined p v
        ∙ (ap (λ r. joined P (map (brings P t) r)) (filter-filter-within (into v) (λ a. place_of t a == p) (λ a e. eq-eqb _ _ (place-of-low v a low e m)) t.edges) ∙ sym (gathered-joined v))

    pub held-here : (v : ℕ) → has t.vertices v ≡ true → t.master v ≡ p → held t p v ≡ true
    held-here v k m = sym (ap (λ q. held t q v) m) ∙ S.master_holds v k

    -- the parts of all places together
    module _ (ps : List ℕ) (once : occurs p ps ≡ 1) (placed : Each (λ a. occurs (place_of t a) ps ≡ 1) t.edges) where
      by-place : (v : ℕ) → joined P (map (λ q. part_sum P t q v) ps) ≡ gathered P (edge_list t) t.state.value v
      by-place v = ap (joined P) (turned ps)
          ∙ (joined-by_place P L (brings P t) (place_of t) ps (filter (into v) t.edges) (Each-filter _ (into v) t.edges brings-kept) (Each-filter _ (into v) t.edges placed)
          ∙ sym (gathered-joined v))
        where
          turned : (qs : List ℕ) → map (λ q. part_sum P t q v) qs ≡ map (λ q. joined P (map (brings P t) (filter (λ a. place_of t a == q) (filter (into v) t.edges)))) qs
          turned [] = refl
          turned (q ∷ qs) = (λ i. (part-joined q v ∙ ap (λ r. joined P (map (brings P t) r)) (filter-swap (into v) (λ a. place_of t a == q) t.edges)) i ∷ turned qs i)

      part-named : (q u : ℕ) (x : Part A) → true_part P t q p u ≡ Some x → x.vertex ≡ u
      part-named q u x e = by_test (t.due u && (high t u && ((t.master u == p) && list_any (into u) (arcs_at t q))))
          (λ k. let e' = rw k at e in cc)
          (λ k. let e' = rw k at e in cc)

      has-edge : ℕ → ℕ → Bool
      has-edge v q = high t v && list_any (into v) (arcs_at t q)

      one-part : (v q : ℕ) → has t.vertices v ≡ true → t.master v ≡ p → t.due v ≡ true
          → part_for {V = V} {A = A} v (body.Gather (true_parts P t q p)) ≡ (if has-edge v q then Some (part_sum P t q v) else None)
      unfolding true_parts has-edge
      one-part v q there m a =
          ap (option_map (λ (x : Part A). x.acc)) (find-filter_map (λ (x : Part A). x.vertex) (true_part P t q p) (part-named q) t.vertices v)
          ∙ (ap (λ b. option_map (λ (x : Part A). x.acc) (if b then true_part P t q p v else None)) there
          ∙ (ap (λ b. option_map (λ (x : Part A). x.acc) (if b && (high t v && ((t.master v == p) && list_any (into v) (arcs_at t q))) then Some (record { vertex = v; acc = part_sum P t q v }) else None)) a
          ∙ (ap (λ b. option_map (λ (x : Part A). x.acc) (if high t v && (b && list_any (into v) (arcs_at t q)) then Some (record { vertex = v; acc = part_sum P t q v }) else None)) (eq-eqb (t.master v) p m)
          ∙ chosen (high t v && list_any (into v) (arcs_at t q)))))
        where
          chosen : (b : Bool) → option_map (λ (x : Part A). x.acc) (if b then Some (record { vertex = v; acc = part_sum P t q v }) else None) ≡ (if b then Some (part_sum P t q v) else None)
          chosen true = refl
          chosen false = refl

      all-parts : (v : ℕ) → has t.vertices v ≡ true → t.master v ≡ p → t.due v ≡ true → (qs : List ℕ)
          → filter_map (part_for {V = V} {A = A} v) (map (λ q. body.Gather (true_parts P t q p)) qs) ≡ filter_map (λ q. if has-edge v q then Some (part_sum P t q v) else None) qs
      all-parts v there m a [] = refl
      all-parts v there m a (q ∷ qs) = λ i. cons_option (one-part v q there m a i) (all-parts v there m a qs i)

      no-edge : (v q : ℕ) → high t v ≡ true → has-edge v q ≡ false → part_sum P t q v ≡ P.unit
      unfolding has-edge part_sum
      no-edge v q hi e = let e' : list_any (into v) (arcs_at t q) ≡ false = sym (ap (λ b. b && list_any (into v) (arcs_at t q)) hi) ∙ e in
          ap (λ r. total P (map (brings P t) r)) (filter-none (into v) (arcs_at t q) e')

      none-low : (v : ℕ) → high t v ≡ false → (qs : List ℕ) → filter_map (λ q. if has-edge v q then Some (part_sum P t q v) else None) qs ≡ []
      unfolding has-edge
      none-low v low [] = refl
      none-low v low (q ∷ qs) = rw low (none-low v low qs)

      -- what the place joins of a due vertex that it masters
      pub whole-sum_at : (v : ℕ) → has t.vertices v ≡ true → t.master v ≡ p → t.due v ≡ true
          → whole_sum P (rows_at P t p) (arcs_at t p) (gathers_of P t p (without_place ps p)) v ≡ gathered P (edge_list t) t.state.value v
      unfolding whole_sum gathers_of
      whole-sum_at v there m a =
          (λ i. fold P.join (own-sum_at v i) (all-parts v there m a (without_place ps p) i))
          ∙ by_test (high t v)
          (λ hi. let some = joined-some P L (λ q. part_sum P t q v) (has-edge v) (λ q. part-kept q v) (λ q e. no-edge v q hi e) (without_place ps p) in
          fold-joined P L (part_sum P t p v) _ (part-kept p v) some.1
          ∙ (ap (P.join (part_sum P t p v)) some.0
          ∙ (sym (joined-extract P L (λ q. part_sum P t q v) p (λ q. part-kept q v) ps once) ∙ by-place v)))
          (λ low. ap (fold P.join (part_sum P t p v)) (none-low v low (without_place ps p)) ∙ low-sum v low m)

    -- the Gather body to q
    no-arc : (v : ℕ) → held t p v ≡ false → list_any (into v) (filter (λ a. place_of t a == p) t.edges) ≡ false
    no-arc v no' = list_any-filter_none (into v) (λ a. place_of t a == p) t.edges (Each-weaker _ _ (λ a h e. by_test (a.edge.dst == v)
        (λ k. let same : a.edge.dst ≡ v = eqb-true a.edge.dst v k in let at : place_of t a ≡ p = eqb-true (place_of t a) p e in
        let h' : held t p v ≡ true = (λ i. sym (ap (λ q. held t q v) at) i) ∙ (sym (ap (held t (place_of t a)) same) ∙ h) in absurd (both_ways _ no' h'))
        (λ k. k)) t.edges S.targets_held)

    abbrev part-with : ℕ → A → Part A
    part-with v s = record { vertex = v; acc = s }

    part-line : (q v : ℕ) (b : Bool) → (if b then Some (part-with v (own_sum P (rows_at P t p) (arcs_at t p) v)) else None) ≡ (if b then Some (part-with v (part_sum P t p v)) else None)
    part-line q v b = ap (λ s. if b then Some (part-with v s) else None) (own-sum_at v)

    pub gather-body_at : (q : ℕ) → gather_body P t.theta q (rows_at P t p) (arcs_at t p) ≡ true_parts P t p q
    unfolding gather_body true_parts rows_at arcs_at
    gather-body_at q = filter_map-map-filter _ (copy_at P t p) (true_part P t p q) (held t p) t.vertices (Each-always _ (λ v. (
      (λ e. part-line q v _),
      (λ e. let none = no-arc v e in rw none (never (t.due v) (high t v) (t.master v == q) _)),
    )) t.vertices)
      where
        never : (a b m : Bool) (x : Part A) → (if a && (b && (m && false)) then Some x else None) ≡ None
        never true true true x = refl
        never true true false x = refl
        never true false m x = refl
        never false b m x = refl
