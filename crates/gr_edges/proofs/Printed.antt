-- What the reader finds in a line that the printer writes.
use Rattle.std.proofs.Common.{◌≡◌, ℕ, suc, ◌^◌, ◌<◌, ◌≤◌, false, not, cond, get_or, List, [], ◌∷◌, ◌++◌, map, refl, sym, ap, ◌∙◌, arith, append_assoc}
use Rattle.std.specs.Prelude.{◌&&◌, ◌||◌, if◌then◌else◌}
use Rattle.std.specs.List.{All, flat_map}
use Rattle.std.specs.Fmt.{decimal}
use Rattle.std.specs.Str.Parse.{digits_value}
use Rattle.std.proofs.lemmas.Bool.{ne_eqb}
use Rattle.std.proofs.lemmas.List.Elements.{All-cons}
use Rattle.gr_base.specs.declared.records.Edge as base
use Rattle.gr_text.proofs.Spaced.{IsWord, word-decimal, number-decimal, digits_value-decimal, each-decimal, spaced, words-read, words-before}
use Rattle.gr_edges.specs.declared.graph.VertexInfo.{VertexInfo}
use Rattle.gr_edges.specs.declared.line.LineFound.TheVariants.{Skipped, Vertex, Edge, TooLarge, Bad}
use Rattle.gr_edges.specs.Fields.{is_comment, is_bad, is_large, number_of, of_fields, line_of}
use Rattle.gr_edges.specs.Reading.{lines_of}
use Rattle.gr_edges.specs.Text.{vertex_line, edge_line, Has32Bits}

-- the field of a number
module _ (n : ℕ) (small : n < 2 ^ 32) where
  not-bad : is_bad (decimal n) ≡ false
  not-bad = ap not (number-decimal n small).digits

  not-large : is_large (decimal n) ≡ false
  not-large = λ t. (number-decimal n small).digits t && not ((number-decimal n small).size t)

  number-is : number_of (decimal n) ≡ n
  number-is = (λ t. cond ((number-decimal n small).digits t && (number-decimal n small).size t) (digits_value 10 (decimal n)) 0) ∙ digits_value-decimal n small

  no-comment : (fs : List (List ℕ)) → is_comment (decimal n ∷ fs) ≡ false
  no-comment fs =
      let first : 48 ≤ get_or (decimal n) 0 0 = each-decimal n small (λ b. 48 ≤ b) (λ b low high. low) 0 0 (word-decimal n small).some in
      rw (ne_eqb (get_or (decimal n) 0 0) 35 (λ e. omega arith), ne_eqb (get_or (decimal n) 0 0) 37 (λ e. omega arith)) refl

no-words : All IsWord []
no-words = λ k d lt. absurd (omega arith)

-- a vertex's line
vertex-read : (n : ℕ) → n < 2 ^ 32 → line_of (decimal n) ≡ Vertex n
vertex-read n h =
    ap of_fields (words-read (decimal n) [] (word-decimal n h) no-words)
    ∙ (λ t. if no-comment n h [] t then Skipped else (if not-large n h t || false then TooLarge else (if not-bad n h t || false then Bad else Vertex (number-is n h t))))

-- an edge's line
module _ (a b c : ℕ) (ha : a < 2 ^ 32) (hb : b < 2 ^ 32) (hc : c < 2 ^ 32) where
  abbrev others : List (List ℕ)
  others = decimal b ∷ decimal c ∷ []

  others-are_words : All IsWord others
  others-are_words = All-cons IsWord (decimal b) (decimal c ∷ []) (word-decimal b hb) (All-cons IsWord (decimal c) [] (word-decimal c hc) no-words)

  edge-read : line_of (spaced (decimal a) others) ≡ Edge a b c
  edge-read =
      ap of_fields (words-read (decimal a) others (word-decimal a ha) others-are_words)
      ∙ (λ t. if no-comment a ha others t then Skipped
      else (if not-large a ha t || (not-large b hb t || (not-large c hc t || false)) then TooLarge
      else (if not-bad a ha t || (not-bad b hb t || (not-bad c hc t || false)) then Bad
      else Edge (number-is a ha t) (number-is b hb t) (number-is c hc t))))

pub vertex-lines : (vs : List VertexInfo) (rest : List ℕ) → All (λ v. v.id < 2 ^ 32) vs → lines_of (flat_map vertex_line vs ++ rest) ≡ map (λ v. Vertex v.id) vs ++ lines_of rest
vertex-lines [] rest small = refl
vertex-lines (v ∷ vs) rest small =
    let h : v.id < 2 ^ 32 = small 0 v (omega arith) in
    let more = flat_map vertex_line vs ++ rest in
    ap lines_of (append_assoc (decimal v.id ++ 10 ∷ []) (flat_map vertex_line vs) rest ∙ append_assoc (decimal v.id) (10 ∷ []) more)
    ∙ words-before line_of (decimal v.id) [] more (word-decimal v.id h) no-words
    ∙ (λ t. vertex-read v.id h t ∷ vertex-lines vs rest (λ k d lt. small (suc k) d (omega arith)) t)

pub edge-lines : (es : List base.Edge) → All Has32Bits es → lines_of (flat_map edge_line es) ≡ map (λ e. Edge e.src e.dst e.weight) es ++ Skipped ∷ []
edge-lines [] small = refl
edge-lines (e ∷ es) small =
    let q = small 0 e (omega arith) in
    let more = flat_map edge_line es in
    let joined : edge_line e ++ more ≡ spaced (decimal e.src) (others e.src e.dst e.weight q.src q.dst q.weight) ++ 10 ∷ more =
    append_assoc (decimal e.src) (32 ∷ (decimal e.dst ++ 32 ∷ (decimal e.weight ++ 10 ∷ []))) more
    ∙ ap (λ (l : List ℕ). decimal e.src ++ 32 ∷ l) (append_assoc (decimal e.dst) (32 ∷ (decimal e.weight ++ 10 ∷ [])) more ∙ ap (λ (l : List ℕ). decimal e.dst ++ 32 ∷ l) (append_assoc (decimal e.weight) (10 ∷ []) more) ∙ sym (append_assoc (decimal e.dst) (32 ∷ decimal e.weight) (10 ∷ more)))
    ∙ sym (append_assoc (decimal e.src) (32 ∷ (decimal e.dst ++ 32 ∷ decimal e.weight)) (10 ∷ more)) in
    ap lines_of joined
    ∙ words-before line_of (decimal e.src) (others e.src e.dst e.weight q.src q.dst q.weight) more (word-decimal e.src q.src) (others-are_words e.src e.dst e.weight q.src q.dst q.weight)
    ∙ (λ t. edge-read e.src e.dst e.weight q.src q.dst q.weight t ∷ edge-lines es (λ k d lt. small (suc k) d (omega arith)) t)
