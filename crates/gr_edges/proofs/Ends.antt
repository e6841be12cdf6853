-- The ends of the edges that lines add stand among the ids that they name.
use Rattle.std.proofs.Common.{◌≡◌, ℕ, Bool, true, false, eqb, cond, List, [], ◌∷◌, ◌++◌, refl, ap, ◌∙◌, arith}
use Rattle.std.specs.Prelude.{◌||◌, not}
use Rattle.std.specs.List.{All, flat_map}
use Rattle.std.proofs.lemmas.Bool.{eq-eqb}
use Rattle.std.proofs.Math.Bool.{or-true}
use Rattle.std.proofs.lemmas.List.Elements.{All-append, All-cons}
use Rattle.std.proofs.lemmas.List.Folds.{list_any-append}
use Rattle.gr_base.specs.declared.records.Edge as base
use Rattle.gr_base.specs.Rising.{has}
use Rattle.gr_edges.specs.declared.line.LineFound.{LineFound}
use Rattle.gr_edges.specs.declared.line.LineFound.TheVariants.{Skipped, Vertex, Edge, TooLarge, Bad}
use Rattle.gr_edges.specs.Vertices.{HasEnds}
use Rattle.gr_edges.specs.Reading.{edges_of_line, ids_of_line, edges_of, ids_of}
use Rattle.gr_edges.proofs.Ids.{has-joined}

-- a list with more ids in front or behind
has-before : (v : ℕ) (ns ms : List ℕ) → has ns v ≡ true → has (ns ++ ms) v ≡ true
has-before v ns ms h = list_any-append (λ (n : ℕ). eqb n v) ns ms ∙ ap (λ (b : Bool). b || has ms v) h

has-behind : (v : ℕ) (ns ms : List ℕ) → has ms v ≡ true → has (ns ++ ms) v ≡ true
has-behind v ns ms h = list_any-append (λ (n : ℕ). eqb n v) ns ms ∙ ap (λ (b : Bool). has ns v || b) h ∙ or-true (has ns v)

ends-before : (ns ms : List ℕ) (e : base.Edge) → HasEnds ns e → HasEnds (ns ++ ms) e
ends-before ns ms e h = record { src = has-before e.src ns ms h.src; dst = has-before e.dst ns ms h.dst }

ends-behind : (ns ms : List ℕ) (e : base.Edge) → HasEnds ms e → HasEnds (ns ++ ms) e
ends-behind ns ms e h = record { src = has-behind e.src ns ms h.src; dst = has-behind e.dst ns ms h.dst }

first-is : (a b : ℕ) → has (a ∷ b ∷ []) a ≡ true
first-is a b = ap (λ (t : Bool). t || (eqb b a || false)) (eq-eqb a a refl)

second-is : (a b : ℕ) → has (a ∷ b ∷ []) b ≡ true
second-is a b = ap (λ (t : Bool). eqb a b || (t || false)) (eq-eqb b b refl) ∙ or-true (eqb a b)

none-of : (P : base.Edge → Type 0) → All P []
none-of P = λ k d lt. absurd (omega arith)

both-ways-ends : (ns : List ℕ) (alone : Bool) (e back : base.Edge) → HasEnds ns e → HasEnds ns back → All (HasEnds ns) (cond alone (e ∷ []) (e ∷ back ∷ []))
both-ways-ends ns true e back he hb = All-cons (HasEnds ns) e [] he (none-of (HasEnds ns))
both-ways-ends ns false e back he hb = All-cons (HasEnds ns) e (back ∷ []) he (All-cons (HasEnds ns) back [] hb (none-of (HasEnds ns)))

line-ends : (undirected : Bool) (line : LineFound) → All (HasEnds (ids_of_line line)) (edges_of_line undirected line)
line-ends undirected Skipped = none-of (HasEnds [])
line-ends undirected (Vertex v) = none-of (HasEnds (v ∷ []))
line-ends undirected (Edge s d w) =
    both-ways-ends (s ∷ d ∷ []) (not undirected || eqb s d) (record { src = s; dst = d; weight = w }) (record { src = d; dst = s; weight = w })
    (record { src = first-is s d; dst = second-is s d }) (record { src = second-is s d; dst = first-is s d })
line-ends undirected TooLarge = none-of (HasEnds [])
line-ends undirected Bad = none-of (HasEnds [])

named-ends : (undirected : Bool) (lines : List LineFound) → All (HasEnds (flat_map ids_of_line lines)) (edges_of undirected lines)
named-ends undirected [] = none-of (HasEnds [])
named-ends undirected (line ∷ lines) =
    let here = line-ends undirected line in
    let later = named-ends undirected lines in
    All-append (HasEnds (ids_of_line line ++ flat_map ids_of_line lines)) (edges_of_line undirected line) (edges_of undirected lines)
    (λ k d lt. ends-before (ids_of_line line) (flat_map ids_of_line lines) _ (here k d lt))
    (λ k d lt. ends-behind (ids_of_line line) (flat_map ids_of_line lines) _ (later k d lt))

pub ends-stand : (undirected : Bool) (lines : List LineFound) → All (HasEnds (ids_of lines)) (edges_of undirected lines)
ends-stand undirected lines =
    let named = named-ends undirected lines in
    λ k d lt. let h = named k d lt in
    record { src = has-joined _ [] (flat_map ids_of_line lines) ∙ h.src; dst = has-joined _ [] (flat_map ids_of_line lines) ∙ h.dst }
