-- What a place does in a rebuild, by what it goes by (its number, the epoch, the other parties and the view) and by the edges of places that retire.
use Rattle.std.specs.Prelude.{ℕ, ◌≡◌, ◌≤◌, true, false, List}
use Rattle.std.specs.List.{All}
use Rattle.gr_base.specs.declared.records.NumberedEdge.{NumberedEdge}
use Rattle.gr_program.specs.declared.copy.VertexCopy.{VertexCopy}
use Rattle.gr_program.specs.Program.{Program}
use Rattle.gr_log.specs.declared.record.LogRecord.{LogRecord}
use Rattle.gr_log.specs.Directory.{with_items}
use Rattle.gr_batch.specs.declared.stage.Stage.{Stage}
use Rattle.gr_batch.specs.declared.stage.Stage.TheVariants as stage
use Rattle.gr_batch.specs.declared.body.Body.{Body}
use Rattle.gr_batch.specs.declared.body.Body.TheVariants as body
use Rattle.gr_view.specs.Modes.{is_repair}
use Rattle.gr_rules.specs.Rows.{entry}
use Rattle.gr_rules.specs.Taken.{Ends}
use Rattle.gr_rules.specs.Grants.{wanted, records_after}
use Rattle.gr_migrate.specs.Asks.{taken_among, asked_among}
use Rattle.gr_migrate.specs.Ends.{KnowsMaster, KnowsMasters}
use Rattle.gr_rebuild.specs.declared.place.PlaceInRebuild.{PlaceInRebuild}
use Rattle.gr_rebuild.specs.Granted as all
use Rattle.gr_rebuild.specs.Granted.{RepairReady}
use Rattle.gr_cluster.specs.Tables.{Host, Cluster, view_of}
use Rattle.gr_cluster.specs.Todo.{others}

-- what the place p goes by
abbrev pub place_in : {V A : Type 0} → Program V A → Cluster V A → ℕ → PlaceInRebuild
place_in P c p = record {
  place = p;
  epoch = c.coordinator.epoch;
  others = others c.coordinator p;
  repair = is_repair c.coordinator.mode;
  view = view_of P c;
}

module _ {V A : Type 0} (w : PlaceInRebuild) (retired : List Ends) (h : Host V A) where
  -- the copies that it grants to q, those that are granted to it, and the edges that it takes over
  abbrev pub granted_to : ℕ → List (VertexCopy V)
  granted_to q = all.granted_to h.inbox w.epoch w.others w.view (wanted w.repair w.view) w.place h.stable q

  abbrev pub granted : List (VertexCopy V)
  granted = all.granted h.inbox w.epoch w.others w.view (wanted w.repair w.view) w.place h.stable

  abbrev pub taken : List NumberedEdge
  taken = taken_among w.view w.place retired

  -- its pending copies and edges once a stage is computed: all is staged at the end
  abbrev pub rows_after : Stage → List (VertexCopy V)
  rows_after stage.End = with_items (λ r. r.vertex) granted h.pending
  rows_after _ = h.pending

  abbrev pub arcs_after : Stage → List NumberedEdge
  arcs_after stage.End = with_items (λ a. a.number) taken h.pending_arcs
  arcs_after _ = h.pending_arcs

  -- the body of a stage to q
  abbrev pub body_after : ℕ → Stage → Body V A
  body_after q stage.Ask = body.Ask (asked_among w.view w.place h.stable q retired)
  body_after q _ = body.Grant (granted_to q)

  -- what it appends to its log
  abbrev pub appended_by : List LogRecord
  appended_by = records_after granted taken

  -- these edges, its copies and its inbox are fit for that
  pub record ReadyToRebuild : Type 0 where
    pub places : w.view.places ≤ 64
    pub masters : All KnowsMasters retired
    pub holders : All (λ k. KnowsMaster (entry k)) h.stable
    pub repair : w.repair ≡ true → RepairReady h.inbox w.epoch w.others w.view h.stable
    pub same_rows : h.computed ≡ false → h.pending ≡ h.stable
    pub same_arcs : h.computed ≡ false → h.pending_arcs ≡ h.arcs
