-- What a place grants in a rebuild, and what is granted to it.
use Rattle.std.specs.Prelude.{◌≡◌, ◌<◌, ℕ, List, [], ◌++◌, flat_map}
use Rattle.std.specs.List.{All}
use Rattle.gr_program.specs.declared.copy.VertexCopy.{VertexCopy}
use Rattle.gr_copies.specs.declared.view.RebuildView.{RebuildView}
use Rattle.gr_log.specs.Directory.{with_items}
use Rattle.gr_batch.specs.declared.batch.Batch.{Batch}
use Rattle.gr_batch.specs.declared.stage.Stage.TheVariants as stage
use Rattle.gr_batch.specs.Bodies.{grants_of}
use Rattle.gr_rules.specs.Inbox.{bodies}
use Rattle.gr_rules.specs.Grants.{grant_body}
use Rattle.gr_repair.specs.Short.{IsHeldLive}
use Rattle.gr_rebuild.specs.Asked.{asked_for}

-- at the place p with these copies, in an epoch with these other parties, where a rebuild goes by w and wants so many holders
module _ {V A : Type 0} (inbox : List (Batch V A)) (e : ℕ) (others : List ℕ) (w : RebuildView) (want p : ℕ) (rows : List (VertexCopy V)) where
  -- the copies that it grants to q
  abbrev pub granted_to : ℕ → List (VertexCopy V)
  granted_to q = grant_body w want p (asked_for inbox e others) rows q

  -- all copies granted to it, by the others and by itself, rising
  abbrev pub granted : List (VertexCopy V)
  granted = with_items (λ r. r.vertex) (flat_map grants_of (bodies inbox e stage.Grant others) ++ granted_to p) []

-- In a repair nobody is dead, nobody asks, and the holders of each copy are live.
pub record RepairReady {V A : Type 0} (inbox : List (Batch V A)) (e : ℕ) (others : List ℕ) (w : RebuildView) (rows : List (VertexCopy V)) : Type 0 where
  pub dead : w.dead ≡ []
  pub live : All (λ q. q < w.places) w.live
  pub held : All (IsHeldLive w.live) rows
  pub unasked : (v : ℕ) → asked_for inbox e others v ≡ []
