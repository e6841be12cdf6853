-- A place in a rebuild has what its work needs, and does next what a place in a rebuild does.
use Rattle.std.proofs.Common.{◌≡◌, ◌<◌, ◌≤◌, ℕ, true, sym, ap, subst, arith, Some}
use Rattle.std.specs.List.{AllByRecursion as Each}
use Rattle.std.proofs.lemmas.List.Elements.{All-from_recursion}
use Rattle.gr_program.specs.Program.{Program}
use Rattle.gr_view.specs.Modes.{is_repair, is_rebuild}
use Rattle.gr_rules.specs.Rows.{entry}
use Rattle.gr_migrate.specs.Ends.{KnowsMaster}
use Rattle.gr_rules.specs.Grants.{wanted, grant_body}
use Rattle.gr_rebuild.proofs.Askers.{are-askers, few-askers}
use Rattle.gr_cluster.specs.Tables.{Host, Cluster, host, view_of, wanted_in}
use Rattle.gr_cluster.specs.Todo.{others}
use Rattle.gr_cluster.specs.Place.{asked_for}
use Rattle.gr_agree.specs.Truth.{Truth}
use Rattle.gr_agree.specs.Rebuilt.{stable_at}
use Rattle.gr_agree.specs.Agree.{Agree}
use Rattle.gr_law_rounds.proofs.Network.Frame.{within}
use Rattle.gr_law_rebuilds.proofs.Rebuild.InEpoch.{the-mode, stable-is, stage-here}
use Rattle.gr_law_work.specs.InRebuild.{HasId, MayRebuild}
use Rattle.gr_law_work.proofs.Relies.Logs.{masters-known}
use Rattle.gr_law_work.proofs.Relies.Rows.{masters-hold, stable-ids}
use Rattle.gr_law_work.proofs.Relies.Others.{other-places}
use Rattle.gr_law_work.proofs.Relies.Granted.{granted-ids}
use Rattle.gr_law_work.proofs.Relies.Repair.{may-repair}
use Rattle.gr_law_work.proofs.Relies.Unstaged.{same-layers}
use Rattle.gr_law_work.proofs.Relies.Line.{of-rebuild, todo-rebuild, awaits-sending, append-ready, report-ready}

module _ {V A : Type 0} (P : Program V A) (t : Truth V) (c : Cluster V A) (p : ℕ) (h : Host V A) (AG : Agree P t c) (rebuilding : is_rebuild c.coordinator.mode ≡ true) (at : host c p ≡ Some h)
    (installed : h.installed ≡ c.coordinator.commits) (now : h.epoch ≡ c.coordinator.epoch) where
  pub may-rebuild : MayRebuild P c p h
  may-rebuild =
      let S = AG.committed.sound in
      let le : c.coordinator.commits ≤ h.installed = omega (arith, installed) in
      let le' : c.coordinator.epoch ≤ h.epoch = omega (arith, now) in
      let stable : h.stable ≡ stable_at P (view_of P c) (wanted_in P c) t p = (stable-is P t c AG rebuilding p h at le le').0 in
      let ids : Each HasId h.stable = subst (Each HasId) (sym stable) (stable-ids P t S (view_of P c) (wanted_in P c) p) in
      let places = other-places P t c p AG in
      let in-place : p < c.places = (let w = within c p h h at in let as_many = AG.committed.shaped.hosts in omega (arith, w, as_many)) in
      record {
        place = in-place;
        places = AG.committed.shaped.few;
        masters = masters-known P t c AG rebuilding;
        holders = All-from_recursion (λ k. KnowsMaster (entry k)) h.stable (subst (Each (λ k. KnowsMaster (entry k))) (sym stable) (masters-hold P t S (view_of P c) (wanted_in P c) p));
        ids = All-from_recursion HasId h.stable ids;
        askers = are-askers h.inbox h.epoch (others c.coordinator p) places;
        few_askers = few-askers h.inbox h.epoch (others c.coordinator p) places;
        recovery = λ e q. ap (λ m. grant_body (view_of P c) (wanted (is_repair m) (view_of P c)) p (asked_for P c p h) h.stable q) e;
        repair = λ e. may-repair P t c AG e p h at now stable;
        same_layers = same-layers P t c AG rebuilding p h at le le';
        granted_ids = granted-ids P t c AG p h at now ids;
        stage = of-rebuild h.stage (stage-here P t c AG rebuilding p h at le le');
        awaits = awaits-sending P t c AG rebuilding p h at le le';
        next = todo-rebuild c.coordinator p h rebuilding (the-mode P t c AG rebuilding p h at).open_mode installed now;
        append = append-ready P t c AG rebuilding p h at le le';
        report = report-ready P t c AG rebuilding p h at le le';
      }
