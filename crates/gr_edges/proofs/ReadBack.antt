-- The text of a graph says the graph.
use Rattle.std.proofs.Common.{◌≡◌, ℕ, suc, ◌+◌, ◌^◌, ◌<◌, ◌≤◌, Bool, true, false, ltb, List, [], ◌∷◌, ◌++◌, length, map, take, drop, None, refl, sym, ap, ◌∙◌, subst, arith, inl, inr, length-append, append_assoc}
use Rattle.std.specs.List.{All, flat_map}
use Rattle.std.specs.Ordering.{nat_cmp}
use Rattle.std.specs.Option.{option_or}
use Rattle.std.specs.BTreeSet.{insert_key}
use Rattle.std.proofs.lemmas.Bool.{cases_order, cond-false, le-ltb}
use Rattle.std.proofs.lemmas.List.{append-nil, take-append-drop, get_or_append_left}
use Rattle.std.proofs.Math.Seq.{get_or-append_seam}
use Rattle.std.proofs.lemmas.List.Concat.{flat_map-append}
use Rattle.std.proofs.lemmas.List.Elements.{All-append, All-cons}
use Rattle.std.proofs.lemmas.List.Sums.{fold-append}
use Rattle.gr_base.specs.declared.records.Edge as base
use Rattle.gr_base.specs.Rising.{RisesBy, has}
use Rattle.gr_base.proofs.Rising.{keys-rise}
use Rattle.gr_edges.specs.declared.graph.VertexInfo.{VertexInfo}
use Rattle.gr_edges.specs.declared.line.LineFound.{LineFound}
use Rattle.gr_edges.specs.declared.line.LineFound.TheVariants.{Skipped, Vertex, Edge}
use Rattle.gr_edges.specs.Vertices.{id_of, ids, vertex_of, HasDegrees, HasEnds}
use Rattle.gr_edges.specs.Reading.{lines_of, joined, edges_of_line, ids_of_line, edges_of, ids_of, vertices_of, fault_of_line, fault_of_size, fault_at, first_fault, max_edges, max_vertices, IsWithinLimits}
use Rattle.gr_edges.specs.Text.{text_of, edge_line, IsReadAs, Has32Bits}
use Rattle.gr_text.proofs.Faults.{first_fault_by-none}
use Rattle.gr_edges.proofs.Ids.{insert-lt, insert-eq, insert-gt, insert-present}
use Rattle.gr_edges.proofs.Printed.{vertex-lines, edge-lines}

-- ---- numbers put among rising ones

-- above all of them
insert-last : (xs : List ℕ) (n : ℕ) → All (λ x. x < n) xs → insert_key nat_cmp xs n ≡ xs ++ n ∷ []
insert-last [] n above = refl
insert-last (x ∷ xs) n above = insert-gt n x xs (above 0 x (omega arith)) ∙ ap (λ (ns : List ℕ). x ∷ ns) (insert-last xs n (λ k d lt. above (suc k) d (omega arith)))

-- rising ones, each after the last
joined-more : (xs ns : List ℕ) → RisesBy (λ (m : ℕ). m) (xs ++ ns) → joined xs ns ≡ xs ++ ns
joined-more xs [] rise = sym (append-nil xs)
joined-more xs (n ∷ ns) rise =
    let above : All (λ x. x < n) xs = λ k d lt.
    let r = rise k (length xs) d lt (omega (arith, length-append xs (n ∷ ns))) in
    omega (arith, get_or_append_left xs (n ∷ ns) d k lt, get_or-append_seam xs n ns d) in
    let next : xs ++ n ∷ ns ≡ (xs ++ n ∷ []) ++ ns = sym (append_assoc xs (n ∷ []) ns) in
    ap (λ (ms : List ℕ). joined ms ns) (insert-last xs n above) ∙ joined-more (xs ++ n ∷ []) ns (subst (RisesBy (λ (m : ℕ). m)) next rise) ∙ sym next

-- those that stand there
joined-present : (xs ns : List ℕ) → RisesBy (λ (m : ℕ). m) xs → All (λ n. has xs n ≡ true) ns → joined xs ns ≡ xs
joined-present xs [] rise there = refl
joined-present xs (n ∷ ns) rise there =
    ap (λ (ms : List ℕ). joined ms ns) (insert-present xs n rise (there 0 n (omega arith)))
    ∙ joined-present xs ns rise (λ k d lt. there (suc k) d (omega arith))

insert-grows : (xs : List ℕ) (n : ℕ) → length xs ≤ length (insert_key nat_cmp xs n)
insert-grows [] n = omega arith
insert-grows (x ∷ xs) n = elim (cases_order n x) [
  | inl e ↦ omega (arith, ap length (insert-eq n x xs e))
  | inr o ↦ elim o [
    | inl lt ↦ omega (arith, ap length (insert-lt n x xs lt))
    | inr gt ↦ omega (arith, ap length (insert-gt n x xs gt), insert-grows xs n)
  ]
]

joined-grows : (xs ns : List ℕ) → length xs ≤ length (joined xs ns)
joined-grows xs [] = omega arith
joined-grows xs (n ∷ ns) = omega (arith, insert-grows xs n, joined-grows (insert_key nat_cmp xs n) ns)

-- ---- fewer lines have fewer edges and ids

module _ (undirected : Bool) (lines : List LineFound) (k : ℕ) where
  split : take k lines ++ drop k lines ≡ lines
  split = take-append-drop k lines

  edges-grow : length (edges_of undirected (take k lines)) ≤ length (edges_of undirected lines)
  edges-grow = omega (arith, ap (λ (ls : List LineFound). length (edges_of undirected ls)) split, ap length (flat_map-append (edges_of_line undirected) (take k lines) (drop k lines)), length-append (edges_of undirected (take k lines)) (edges_of undirected (drop k lines)))

  ids-grow : length (ids_of (take k lines)) ≤ length (ids_of lines)
  ids-grow =
      let all : ids_of lines ≡ joined (ids_of (take k lines)) (flat_map ids_of_line (drop k lines)) =
      ap ids_of (sym split) ∙ ap (joined []) (flat_map-append ids_of_line (take k lines) (drop k lines)) ∙ fold-append (insert_key nat_cmp) [] (flat_map ids_of_line (take k lines)) (flat_map ids_of_line (drop k lines)) in
      omega (arith, ap length all, joined-grows (ids_of (take k lines)) (flat_map ids_of_line (drop k lines)))

IsSound : LineFound → Type 0
IsSound line = (number : ℕ) → fault_of_line number line ≡ None

-- lines with no fault of their own, within the limits
no-fault : (undirected : Bool) (lines : List LineFound) → All IsSound lines → IsWithinLimits (edges_of undirected lines) (ids_of lines) → first_fault undirected lines ≡ None
unfolding IsSound
no-fault undirected lines sound few = first_fault_by-none (fault_at max_edges max_vertices undirected lines) (length lines) (λ i lt.
    let no_more_edges : ltb max_edges (length (edges_of undirected (take (i + 1) lines))) ≡ false = le-ltb _ _ (omega (arith, few.few_edges, edges-grow undirected lines (i + 1))) in
    let no_more_ids : ltb max_vertices (length (ids_of (take (i + 1) lines))) ≡ false = le-ltb _ _ (omega (arith, few.few_vertices, ids-grow undirected lines (i + 1))) in
    (λ t. option_or (sound i Skipped (omega arith) (i + 1) t) (fault_of_size max_edges max_vertices (i + 1) (edges_of undirected (take (i + 1) lines)) (ids_of (take (i + 1) lines))))
    ∙ cond-false _ _ _ no_more_edges ∙ cond-false _ _ _ no_more_ids)

-- ---- the lines of a graph

abbrev vertex_found : VertexInfo → LineFound
vertex_found v = Vertex v.id

abbrev edge_found : base.Edge → LineFound
edge_found e = Edge e.src e.dst e.weight

abbrev lines_found : List base.Edge → List VertexInfo → List LineFound
lines_found es vs = map vertex_found vs ++ (map edge_found es ++ Skipped ∷ [])

edges-of_vertices : (vs : List VertexInfo) → edges_of false (map vertex_found vs) ≡ []
edges-of_vertices [] = refl
edges-of_vertices (v ∷ vs) = edges-of_vertices vs

edges-of_edges : (es : List base.Edge) → edges_of false (map edge_found es ++ Skipped ∷ []) ≡ es
edges-of_edges [] = refl
edges-of_edges (e ∷ es) = ap (λ (l : List base.Edge). e ∷ l) (edges-of_edges es)

edges-found : (es : List base.Edge) (vs : List VertexInfo) → edges_of false (lines_found es vs) ≡ es
edges-found es vs =
    flat_map-append (edges_of_line false) (map vertex_found vs) (map edge_found es ++ Skipped ∷ [])
    ∙ (λ t. edges-of_vertices vs t ++ edges-of_edges es t)

names-of_vertices : (vs : List VertexInfo) → flat_map ids_of_line (map vertex_found vs) ≡ ids vs
names-of_vertices [] = refl
names-of_vertices (v ∷ vs) = ap (λ (l : List ℕ). v.id ∷ l) (names-of_vertices vs)

names-of_edges : (ns : List ℕ) (es : List base.Edge) → All (HasEnds ns) es → All (λ n. has ns n ≡ true) (flat_map ids_of_line (map edge_found es ++ Skipped ∷ []))
names-of_edges ns [] ends = λ k d lt. absurd (omega arith)
names-of_edges ns (e ∷ es) ends =
    let here = ends 0 e (omega arith) in
    let later = flat_map ids_of_line (map edge_found es ++ Skipped ∷ []) in
    All-cons (λ n. has ns n ≡ true) e.src (e.dst ∷ later) here.src (All-cons (λ n. has ns n ≡ true) e.dst later here.dst (names-of_edges ns es (λ k d lt. ends (suc k) d (omega arith))))

ids-found : (es : List base.Edge) (vs : List VertexInfo) → RisesBy id_of vs → All (HasEnds (ids vs)) es → ids_of (lines_found es vs) ≡ ids vs
ids-found es vs rise ends =
    let later = map edge_found es ++ Skipped ∷ [] in
    let rising = keys-rise id_of vs rise in
    ap (joined []) (flat_map-append ids_of_line (map vertex_found vs) later ∙ ap (λ (l : List ℕ). l ++ flat_map ids_of_line later) (names-of_vertices vs))
    ∙ fold-append (insert_key nat_cmp) [] (ids vs) (flat_map ids_of_line later)
    ∙ ap (λ (l : List ℕ). joined l (flat_map ids_of_line later)) (joined-more [] (ids vs) rising)
    ∙ joined-present (ids vs) (flat_map ids_of_line later) rising (names-of_edges (ids vs) es ends)

vertices-again : (es : List base.Edge) (vs : List VertexInfo) → All (HasDegrees es) vs → map (vertex_of es) (ids vs) ≡ vs
vertices-again es [] degrees = refl
vertices-again es (v ∷ vs) degrees =
    let here = degrees 0 v (omega arith) in
    λ t. (let x : VertexInfo = record { id = v.id; indeg = sym here.indeg t; outdeg = sym here.outdeg t } in x) ∷ vertices-again es vs (λ k d lt. degrees (suc k) d (omega arith)) t

sound-vertices : (vs : List VertexInfo) → All IsSound (map vertex_found vs)
unfolding IsSound
sound-vertices [] = λ k d lt. absurd (omega arith)
sound-vertices (v ∷ vs) = All-cons IsSound (vertex_found v) (map vertex_found vs) (λ number. refl) (sound-vertices vs)

sound-edges : (es : List base.Edge) → All IsSound (map edge_found es ++ Skipped ∷ [])
unfolding IsSound
sound-edges [] = All-cons IsSound Skipped [] (λ number. refl) (λ k d lt. absurd (omega arith))
sound-edges (e ∷ es) = All-cons IsSound (edge_found e) (map edge_found es ++ Skipped ∷ []) (λ number. refl) (sound-edges es)

pub read-back : (es : List base.Edge) (vs : List VertexInfo) → RisesBy id_of vs → All (HasDegrees es) vs → All (HasEnds (ids vs)) es → All (λ v. v.id < 2 ^ 32) vs → All Has32Bits es → IsWithinLimits es (ids vs) → IsReadAs false (text_of es vs) es vs
read-back es vs rise degrees ends small_ids small_edges few =
    let lines : lines_of (text_of es vs) ≡ lines_found es vs = vertex-lines vs (flat_map edge_line es) small_ids ∙ ap (λ (ls : List LineFound). map vertex_found vs ++ ls) (edge-lines es small_edges) in
    let their_edges : edges_of false (lines_found es vs) ≡ es = edges-found es vs in
    let their_ids : ids_of (lines_found es vs) ≡ ids vs = ids-found es vs rise ends in
    let within : IsWithinLimits (edges_of false (lines_found es vs)) (ids_of (lines_found es vs)) = record { few_edges = omega (arith, few.few_edges, ap length their_edges); few_vertices = omega (arith, few.few_vertices, ap length their_ids) } in
    record {
      no_fault = ap (first_fault false) lines ∙ no-fault false (lines_found es vs) (All-append IsSound (map vertex_found vs) (map edge_found es ++ Skipped ∷ []) (sound-vertices vs) (sound-edges es)) within;
      its_edges = ap (edges_of false) lines ∙ their_edges;
      its_vertices = ap (vertices_of false) lines ∙ (λ t. map (vertex_of (their_edges t)) (their_ids t)) ∙ vertices-again es vs degrees;
    }
