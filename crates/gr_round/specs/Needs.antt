-- What the work of a place in a round needs of its copies, its edges and what it was sent.
use Rattle.std.specs.Prelude.{◌≡◌, ◌==◌, ◌&&◌, ℕ, Bool, true, List, Option, Some, None, IsTrue, IsSome, IfSome, map}
use Rattle.std.specs.List.{All}
use Rattle.gr_base.specs.Rising.{RisesBy}
use Rattle.gr_base.specs.declared.records.NumberedEdge.{NumberedEdge}
use Rattle.gr_program.specs.declared.copy.VertexCopy.{VertexCopy}
use Rattle.gr_program.specs.Program.{Program}
use Rattle.gr_rows.specs.Layers.{CopyLayers, vertex_of}
use Rattle.gr_batch.specs.declared.batch.Batch.{Batch}
use Rattle.gr_batch.specs.declared.body.Body.{Body}
use Rattle.gr_batch.specs.declared.stage.Stage.TheVariants as stage
use Rattle.gr_batch.specs.Bodies.{parts_of, values_of, signals_of, calls_of}
use Rattle.gr_rules.specs.Rows.{row}
use Rattle.gr_rules.specs.Inbox.{bodies}
use Rattle.gr_rules.specs.Round.{whole_sum, new_value}
use Rattle.gr_low.specs.Sources.{SourcesReady}
use Rattle.gr_round.specs.declared.party.Party.{Party}
use Rattle.gr_round.specs.Party.{brought_to}

-- every value that is kept is one of the program
abbrev pub ValuesFit : {V A : Type 0} → Program V A → List (VertexCopy V) → Type 0
ValuesFit P rows = All (λ c. IfSome c.value (λ x. IsTrue (P.is_value x))) rows

-- a copy d has the new value of the vertex of c, by the stable copies, the edges and the Gather bodies; it is one of the program
pub record HasNewValue {V A : Type 0} (P : Program V A) (rows : List (VertexCopy V)) (arcs : List NumberedEdge) (gathers : List (Body V A)) (c d : VertexCopy V) : Type 0 where
  pub value : d.value ≡ Some (new_value P rows arcs gathers c).value
  pub kept : IsTrue (P.is_value (new_value P rows arcs gathers c).value)

-- the value of a pending copy, if the new values are staged
abbrev pub staged_in : {V : Type 0} → Bool → Option (VertexCopy V) → Option V
staged_in true (Some c) = c.value
staged_in _ _ = None

-- the new values that p computes are staged: each due vertex that p masters has its new value in its pending copy
abbrev pub NewValuesAreStaged : {V A : Type 0} → Program V A → ℕ → List (VertexCopy V) → List NumberedEdge → List (Body V A) → List (VertexCopy V) → Type 0
NewValuesAreStaged P p rows arcs gathers pending =
    All (λ c. IsTrue (c.due && (c.master == p)) → IfSome (row pending c.vertex) (HasNewValue P rows arcs gathers c)) rows

-- the parts of a Gather body: the vertices rise, and each sum is one of the program
pub record PartsFit {V A : Type 0} (P : Program V A) (b : Body V A) : Type 0 where
  pub rise : RisesBy (λ x. x.vertex) (parts_of b)
  pub sums : All (λ x. IsTrue (P.is_acc x.acc)) (parts_of b)

-- the values of an Update body: the vertices rise, and the place has a copy of each
pub record UpdateFits {V A : Type 0} (rows : List (VertexCopy V)) (b : Body V A) : Type 0 where
  pub rise : RisesBy (λ n. n.vertex) (values_of b)
  pub known : All (λ n. IsSome (row rows n.vertex)) (values_of b)

-- what the other parties sent in epoch e
module _ {V A : Type 0} (inbox : List (Batch V A)) (e : ℕ) (others : List ℕ) where
  abbrev pub GathersFit : Program V A → Type 0
  GathersFit P = All (PartsFit P) (bodies inbox e stage.Gather others)

  abbrev pub UpdatesFit : List (VertexCopy V) → Type 0
  UpdatesFit rows = All (UpdateFits rows) (bodies inbox e stage.Update others)

  abbrev pub SignalsRise : Type 0
  SignalsRise = All (λ b. RisesBy (λ v. v) (signals_of b)) (bodies inbox e stage.Signal others)

  abbrev pub CallsRise : Type 0
  CallsRise = All (λ b. RisesBy (λ v. v) (calls_of b)) (bodies inbox e stage.Call others)

-- a sum has the same parts from these senders as from all others
abbrev pub BringTheSame : {V A : Type 0} → Program V A → List (Batch V A) → ℕ → List ℕ → List ℕ → Type 0
BringTheSame P inbox e others senders = (rows : List (VertexCopy _)) (arcs : List NumberedEdge) (v : ℕ)
    → whole_sum P rows arcs (bodies inbox e stage.Gather senders) v ≡ whole_sum P rows arcs (bodies inbox e stage.Gather others) v

-- a place in a round, with its inbox, its copies in both layers and its edges
module _ {V A : Type 0} (P : Program V A) (p : Party) (inbox : List (Batch V A)) (rows : CopyLayers V) (arcs : List NumberedEdge) where
  -- what the new values that it knows stand on
  pub record ValuesReady : Type 0 where
    pub sources : SourcesReady P rows.stable arcs
    pub values : ValuesFit P rows.stable
    pub gathers : GathersFit inbox p.epoch p.others P
    pub updates : UpdatesFit inbox p.epoch p.others rows.stable
    pub staged : IsTrue p.has_new_values → NewValuesAreStaged P p.place rows.stable arcs (brought_to p inbox stage.Gather) rows.pending

  -- what all its work stands on
  pub record RoundReady : Type 0 where
    pub news : ValuesReady
    pub signals : SignalsRise inbox p.epoch p.others
    pub calls : CallsRise inbox p.epoch p.others
    pub pending : map vertex_of rows.pending ≡ map vertex_of rows.stable

  -- if its new values are staged, that of the vertex of a copy is
  abbrev pub StagesNew : VertexCopy V → Type 0
  StagesNew c = IsTrue p.has_new_values → IfSome (row rows.pending c.vertex) (HasNewValue P rows.stable arcs (brought_to p inbox stage.Gather) c)
