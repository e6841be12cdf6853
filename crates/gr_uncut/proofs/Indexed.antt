-- Edges in the rows of their ends.
use Rattle.std.proofs.Common.{◌≡◌, ◌∙◌, ◌<◌, ℕ, eqb, List, length, get_or, map, ap, sym}
use Rattle.std.specs.Prelude.{slice_index}
use Rattle.std.specs.List.{All, filter}
use Rattle.std.proofs.lemmas.List.{get_or-map}
use Rattle.gr_base.specs.declared.records.Edge.{Edge}
use Rattle.gr_base.specs.Degrees.{outdegree}
use Rattle.gr_base.specs.Rising.{RisesBy}
use Rattle.gr_edges.specs.declared.graph.VertexInfo.{VertexInfo}
use Rattle.gr_edges.specs.Vertices.{ids, id_of, HasDegrees}
use Rattle.gr_uncut.specs.declared.index.Arc.{Arc}
use Rattle.gr_uncut.specs.Index.{arc_of, with_id, ArePositions, AreArcs}
use Rattle.gr_uncut.specs.Rows.{items_of}
use Rattle.gr_uncut.proofs.Positions.{same-position, items_of-told, items_of-all}

abbrev arc : ℕ → ℕ → ℕ → Arc
arc source weight out = record { source = source; weight = weight; outdegree = out }

same-arc : {a b c a' b' c' : ℕ} → a ≡ a' → b ≡ b' → c ≡ c' → arc a b c ≡ arc a' b' c'
same-arc p q r = cc

-- an arc tells its edge
pub arc-told : (es : List Edge) (vertices : List VertexInfo) (source weight out : ℕ) (edge : Edge) (d : VertexInfo) → source < length vertices → All (HasDegrees es) vertices → slice_index (ids vertices) source ≡ edge.src → weight ≡ edge.weight → out ≡ (get_or vertices source d).outdeg
    → with_id (ids vertices) (record { source = source; weight = weight; outdegree = out }) ≡ arc_of es edge
arc-told es vertices source weight out edge d lt degrees found same read =
    let id : (get_or vertices source d).id ≡ edge.src = sym (get_or-map id_of vertices source d 0 lt) ∙ found in
    let outs : out ≡ outdegree es edge.src = read ∙ (degrees source d lt).outdeg ∙ ap (outdegree es) id in
    same-arc found same outs

module _ (vs : List ℕ) (es : List Edge) (rise : RisesBy (λ (n : ℕ). n) vs) where
  apart : (positions edges : List ℕ) (k : ℕ) → ArePositions vs positions edges → k < length vs → All (λ j. eqb (slice_index vs j) (slice_index vs k) ≡ eqb j k) positions
  apart positions edges k are lt = λ i d within. same-position vs (get_or positions i d) k rise (are.within i d within) lt

  pub arcs-in_row : (targets : List ℕ) (arcs : List Arc) (k : ℕ) → ArePositions vs targets (map (λ e. e.dst) es) → AreArcs vs es arcs es → k < length vs → AreArcs vs es (items_of targets arcs k) (filter (λ e. eqb e.dst (slice_index vs k)) es)
  arcs-in_row targets arcs k t a lt = record {
    within = items_of-all (λ a. a.source < length vs) targets arcs k a.within;
    at = items_of-told (with_id vs) (slice_index vs) (arc_of es) (λ e. e.dst) targets arcs es k t.at a.at (apart targets (map (λ e. e.dst) es) k t lt);
  }

  pub targets-in_row : (sources targets : List ℕ) (k : ℕ) → ArePositions vs sources (map (λ e. e.src) es) → ArePositions vs targets (map (λ e. e.dst) es) → k < length vs → ArePositions vs (items_of sources targets k) (map (λ e. e.dst) (filter (λ e. eqb e.src (slice_index vs k)) es))
  targets-in_row sources targets k s t lt = record {
    within = items_of-all (λ k. k < length vs) sources targets k t.within;
    at = items_of-told (slice_index vs) (slice_index vs) (λ e. e.dst) (λ e. e.src) sources targets es k s.at t.at (apart sources (map (λ e. e.src) es) k s lt);
  }
