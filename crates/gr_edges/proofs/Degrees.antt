-- The degrees of vertices, edge by edge.
use Rattle.std.proofs.Common.{◌≡◌, ℕ, ◌+◌, ◌<◌, ◌≤◌, Bool, true, false, eqb, ltb, cond, List, [], ◌∷◌, ◌++◌, length, take, get_or, set, map, refl, sym, ap, ◌∙◌, subst, arith, inl, inr}
use Rattle.std.specs.Prelude.{◌||◌}
use Rattle.std.specs.List.{All, list_any, count_by, prefix_len}
use Rattle.std.proofs.lemmas.Bool.{cases_Bool, cases_eq, cases_lt, eq-eqb, ne_eqb}
use Rattle.std.proofs.lemmas.List.{length-map, get_or-map, length-take}
use Rattle.std.proofs.lemmas.List.Sums.{count_by_more_yes, count_by_more_no, count_by-le-length}
use Rattle.std.proofs.Math.Seq.{take-append_seam}
use Rattle.std.proofs.lemmas.Simd.{map-map}
use Rattle.gr_base.specs.declared.records.Edge.{Edge}
use Rattle.gr_base.specs.Degrees.{indegree, outdegree}
use Rattle.gr_base.specs.Rising.{RisesBy, has}
use Rattle.gr_base.proofs.Rising.{missing-at, mapped-at}
use Rattle.gr_edges.specs.declared.graph.VertexInfo.{VertexInfo}
use Rattle.gr_edges.specs.Vertices.{id_of, ids, vertex_of, with_source, with_target}

-- the same id in a list of vertices and in their ids
has-ids : (v : ℕ) (vs : List VertexInfo) → has (ids vs) v ≡ list_any (λ (x : VertexInfo). eqb (id_of x) v) vs
has-ids v [] = refl
has-ids v (x ∷ xs) = ap (λ (b : Bool). eqb (id_of x) v || b) (has-ids v xs)

-- a search ends at the vertex
pub stands-there : (v : ℕ) (vs : List VertexInfo) (i : ℕ) → RisesBy id_of vs → has (ids vs) v ≡ true → prefix_len (λ (x : VertexInfo). ltb (id_of x) v) vs ≡ i → (i < length vs) × ((d : VertexInfo) → id_of (get_or vs i d) ≡ v)
stands-there v vs i rise there place = elim (cases_lt i (length vs)) [
  | inl lt ↦ (
    lt,
    λ d. elim (cases_eq (id_of (get_or vs i d)) v) [
      | inl at ↦ at
      | inr apart ↦ let none = (missing-at id_of v vs i d rise place (λ l q. apart q)).1 in let test = has-ids v vs in cc
    ],
  )
  | inr ge ↦ let d : VertexInfo = record { id = 0; indeg = 0; outdeg = 0 } in let none = (missing-at id_of v vs i d rise place (λ l q. absurd (omega arith))).1 in let test = has-ids v vs in cc
]

abbrev more_out : VertexInfo → VertexInfo
more_out x = record { id = x.id; indeg = x.indeg; outdeg = x.outdeg + 1 }

abbrev more_in : VertexInfo → VertexInfo
more_in x = record { id = x.id; indeg = x.indeg + 1; outdeg = x.outdeg }

module _ (v : ℕ) where
  source-at : (b : Bool) (x : VertexInfo) → cond b (more_out x) x ≡ record { id = x.id; indeg = x.indeg; outdeg = x.outdeg + cond b 1 0 }
  source-at true x = refl
  source-at false x = λ t. record { id = x.id; indeg = x.indeg; outdeg = (let e : x.outdeg ≡ x.outdeg + 0 = omega arith in e) t }

  target-at : (b : Bool) (x : VertexInfo) → cond b (more_in x) x ≡ record { id = x.id; indeg = x.indeg + cond b 1 0; outdeg = x.outdeg }
  target-at true x = refl
  target-at false x = λ t. record { id = x.id; indeg = (let e : x.indeg ≡ x.indeg + 0 = omega arith in e) t; outdeg = x.outdeg }

  -- one more edge begins at a vertex
  pub source-counted : (vs : List VertexInfo) (i : ℕ) (d : VertexInfo) → RisesBy id_of vs → prefix_len (λ (x : VertexInfo). ltb (id_of x) v) vs ≡ i → i < length vs → id_of (get_or vs i d) ≡ v → set vs i (more_out (get_or vs i d)) ≡ map (with_source v) vs
  source-counted vs i d rise place lt at = mapped-at id_of more_out v vs i d rise place lt at ∙ (λ t. map (λ (x : VertexInfo). source-at (eqb x.id v) x t) vs)

  -- one more edge ends at a vertex
  pub target-counted : (vs : List VertexInfo) (i : ℕ) (d : VertexInfo) → RisesBy id_of vs → prefix_len (λ (x : VertexInfo). ltb (id_of x) v) vs ≡ i → i < length vs → id_of (get_or vs i d) ≡ v → set vs i (more_in (get_or vs i d)) ≡ map (with_target v) vs
  target-counted vs i d rise place lt at = mapped-at id_of more_in v vs i d rise place lt at ∙ (λ t. map (λ (x : VertexInfo). target-at (eqb x.id v) x t) vs)

eqb-flip : (a b : ℕ) → eqb a b ≡ eqb b a
eqb-flip a b = elim (cases_eq a b) [
  | inl e ↦ eq-eqb a b e ∙ sym (eq-eqb b a (sym e))
  | inr ne ↦ ne_eqb a b ne ∙ sym (ne_eqb b a (λ e. ne (sym e)))
]

count-more : (p : Edge → Bool) (es : List Edge) (i : ℕ) (d : Edge) → i < length es → count_by p (take (i + 1) es) ≡ count_by p (take i es) + cond (p (get_or es i d)) 1 0
count-more p es i d lt = elim (cases_Bool (p (get_or es i d))) [
  | inl passes ↦ count_by_more_yes p es i d lt passes ∙ ap (λ (b : Bool). count_by p (take i es) + cond b 1 0) (sym passes)
  | inr fails ↦ count_by_more_no p es i d lt fails ∙ (let e : count_by p (take i es) ≡ count_by p (take i es) + 0 = omega arith in e) ∙ ap (λ (b : Bool). count_by p (take i es) + cond b 1 0) (sym fails)
]

module _ (es : List Edge) (i : ℕ) (d : Edge) (lt : i < length es) where
  -- an edge more, at the vertex of an id
  vertex-after : (v : ℕ) → with_target (get_or es i d).dst (with_source (get_or es i d).src (vertex_of (take i es) v)) ≡ vertex_of (take (i + 1) es) v
  vertex-after v =
      let e_in : indegree (take i es) v + cond (eqb v (get_or es i d).dst) 1 0 ≡ indegree (take (i + 1) es) v =
      ap (λ (b : Bool). indegree (take i es) v + cond b 1 0) (eqb-flip v (get_or es i d).dst) ∙ sym (count-more (λ (e : Edge). eqb e.dst v) es i d lt) in
      let e_out : outdegree (take i es) v + cond (eqb v (get_or es i d).src) 1 0 ≡ outdegree (take (i + 1) es) v =
      ap (λ (b : Bool). outdegree (take i es) v + cond b 1 0) (eqb-flip v (get_or es i d).src) ∙ sym (count-more (λ (e : Edge). eqb e.src v) es i d lt) in
      λ t. record { id = v; indeg = e_in t; outdeg = e_out t }

  pub vertices-after : (ns : List ℕ) (vs : List VertexInfo) → vs ≡ map (vertex_of (take i es)) ns → map (with_target (get_or es i d).dst) (map (with_source (get_or es i d).src) vs) ≡ map (vertex_of (take (i + 1) es)) ns
  vertices-after ns vs are =
      ap (λ (xs : List VertexInfo). map (with_target (get_or es i d).dst) (map (with_source (get_or es i d).src) xs)) are
      ∙ ap (map (with_target (get_or es i d).dst)) (map-map (with_source (get_or es i d).src) (vertex_of (take i es)) ns)
      ∙ map-map (with_target (get_or es i d).dst) (λ (v : ℕ). with_source (get_or es i d).src (vertex_of (take i es) v)) ns
      ∙ (λ t. map (λ (v : ℕ). vertex-after v t) ns)

-- vertices made of rising ids
module _ (f : ℕ → VertexInfo) (keeps : (v : ℕ) → id_of (f v) ≡ v) where
  pub ids-made : (ns : List ℕ) → ids (map f ns) ≡ ns
  ids-made [] = refl
  ids-made (n ∷ ns) = λ t. keeps n t ∷ ids-made ns t

  pub made-rise : (ns : List ℕ) → RisesBy (λ (n : ℕ). n) ns → RisesBy id_of (map f ns)
  made-rise ns rise = λ i j d below lt.
      let lj : j < length ns = rw length-map at lt in
      let li : i < length ns = omega arith in
      let q = rise i j 0 below lj in
      omega (arith, ap id_of (get_or-map f ns i 0 d li), ap id_of (get_or-map f ns j 0 d lj), keeps (get_or ns i 0), keeps (get_or ns j 0))

  pub each-made : (P : VertexInfo → Type 0) (ns : List ℕ) → ((v : ℕ) → P (f v)) → All P (map f ns)
  each-made P ns h = λ k d lt.
      let lk : k < length ns = rw length-map at lt in
      subst P (sym (get_or-map f ns k 0 d lk)) (h (get_or ns k 0))

-- vertices with no edge, made of ids
module _ (vs : List VertexInfo) (ns : List ℕ) (are : vs ≡ map (vertex_of []) ns) where
  pub ids-unconnected : ids vs ≡ ns
  ids-unconnected = ap ids are ∙ ids-made (vertex_of []) (λ v. refl) ns

  pub unconnected-rise : RisesBy (λ (n : ℕ). n) ns → RisesBy id_of vs
  unconnected-rise rise = subst (RisesBy id_of) (sym are) (made-rise (vertex_of []) (λ v. refl) ns rise)

  pub unconnected-again : vs ≡ map (vertex_of []) (ids vs)
  unconnected-again = are ∙ ap (map (vertex_of [])) (sym ids-unconnected)

pub degree-le : (p : Edge → Bool) (es : List Edge) (i : ℕ) → count_by p (take i es) ≤ i
degree-le p es i = omega (arith, count_by-le-length p (take i es), length-take i es)

-- the front of a list, where another is written over
pub written-over : (new rest all : List VertexInfo) (n : ℕ) → all ≡ take n (new ++ rest) → n ≡ length new → all ≡ new
written-over new rest all n is n_is = is ∙ ap (λ (k : ℕ). take k (new ++ rest)) n_is ∙ take-append_seam new rest
