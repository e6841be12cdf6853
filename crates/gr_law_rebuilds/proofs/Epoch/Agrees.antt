-- A cluster that opens its next epoch agrees with the same committed state.
use Rattle.std.proofs.Common.{refl, ◌∙◌, sym, arith}
use Rattle.gr_program.specs.Program.{Program}
use Rattle.gr_cluster.specs.Tables.{Cluster, log}
use Rattle.gr_agree.specs.Truth.{Truth}
use Rattle.gr_agree.specs.TrueRound.{active_next}
use Rattle.gr_agree.specs.Agree.{Agree}
use Rattle.gr_law_rounds.proofs.Network.Same.{logs-same}
use Rattle.gr_law_rounds.proofs.Network.Later.{none-reported}
use Rattle.gr_law_rebuilds.proofs.Epoch.Opened.{Change, next_coordinator, opened, Opens, live-same}
use Rattle.gr_law_rebuilds.proofs.Epoch.Batches.{network-later}
use Rattle.gr_law_rebuilds.proofs.Epoch.Parties.{host-later, reborn-later, unready-later}
use Rattle.gr_law_rebuilds.specs.Epoch.{IsLater}

module _ {V A : Type 0} (P : Program V A) (t : Truth V) (c : Cluster V A) (AG : Agree P t c) (x : Change V A) (O : Opens t c x) where
  pub opened-agrees : Agree P t (opened t c x)
  opened-agrees = record {
    committed = record {
      shaped = O.shaped;
      places = O.places;
      sound = AG.committed.sound;
      logs = logs-same t c.coordinator (next_coordinator t c x) (log c) (log (opened t c x)) refl O.logs O.alive AG.committed.logs;
      hosts = λ q h at l. AG.committed.hosts q h (sym (O.stays q l) ∙ at) (O.live q l);
      round = record { state = AG.committed.round.state; settled = λ e. absurd (O.not_done e) };
    };
    open_work = record {
      network = network-later P t c AG x O;
      hosts = λ q h at party. host-later P t c AG x O q h at;
      reborn = λ q h at y. reborn-later P t c AG x O q h at y;
      end = record { done = λ e. absurd (O.not_done e); not_done = λ e. AG.open_work.end.not_done O.was_not_done };
      reports = record {
        ready = λ q h at party. unready-later P t c AG x O q h at;
        none = λ e. (refl, refl);
        due = λ e. sym (none-reported (active_next P t) t.master t.vertices);
        due_bounded = λ e. omega arith;
      };
    };
  }

  pub opened-later : IsLater P t c (opened t c x)
  opened-later = (live-same t c x O, opened-agrees)
