-- A place in a round has what its work needs, and does next what a place in a round does.
use Rattle.std.proofs.Common.{◌+◌, Bool, true, cond, ◌≡◌, ◌<◌, ◌≤◌, ℕ, false, not, nat_lt, map, refl, sym, ap, ◌∙◌, subst, arith, Some, le-ltb}
use Rattle.std.specs.Prelude.{IsSome, ⊤}
use Rattle.gr_base.specs.Rising.{has}
use Rattle.gr_program.specs.Program.{Program}
use Rattle.gr_program.specs.ProgramLaws.{ProgramLaws}
use Rattle.gr_rows.specs.Layers.{vertex_of}
use Rattle.gr_view.specs.declared.coordinator.Coordinator.{Coordinator}
use Rattle.gr_view.specs.declared.coordinator.Mode.TheVariants as mode
use Rattle.gr_view.specs.Modes.{is_rebuild}
use Rattle.gr_round.specs.Todo.{todo_in_round}
use Rattle.gr_low.specs.Sources.{SourcesReady}
use Rattle.gr_rules.specs.Inbox.{bodies}
use Rattle.gr_batch.specs.declared.stage.Stage.{Stage}
use Rattle.gr_batch.specs.declared.stage.Stage.TheVariants as stage
use Rattle.gr_batch.specs.Order.{place_in}
use Rattle.gr_view.specs.Decisions.{parties}
use Rattle.gr_round.specs.Line.{is_past_update}
use Rattle.gr_round.specs.Needs.{ValuesFit, NewValuesAreStaged}
use Rattle.gr_cluster.specs.Tables.{Host, Cluster, host, log, view_of, wanted_in}
use Rattle.gr_cluster.specs.Todo.{others, todo}
use Rattle.gr_cluster.specs.Work.{exchange_of}
use Rattle.gr_agree.specs.Truth.{Truth, rows_at, arcs_at}
use Rattle.gr_agree.specs.Hosts.{progress, AtEpoch}
use Rattle.gr_agree.specs.Agree.{Agree}
use Rattle.gr_lists.proofs.Tests.{by_test}
use Rattle.gr_lists.proofs.Each.{Each-always}
use Rattle.gr_lists.proofs.Any.{find-any}
use Rattle.gr_law_rounds.proofs.Bodies.Fold.{occurs-once}
use Rattle.gr_law_rounds.proofs.Bodies.Rows.{gathers_of}
use Rattle.gr_law_rounds.proofs.Round.Running.{parties-rise, shows-stable, mastered, placed, steady-here}
use Rattle.gr_law_rounds.proofs.Round.InEpoch.{party, at-epoch}
use Rattle.gr_law_rounds.proofs.Round.AtPlace.{gathers-here}
use Rattle.gr_law_rounds.proofs.Round.Compute.{inbox-good, pending-here, none-dead, needed-before}
use Rattle.gr_law_work.specs.InRound.{MayAct}
use Rattle.gr_law_work.proofs.Needs.Rows.{sources-ready, values-fit, vertices-staged}
use Rattle.gr_law_work.proofs.Needs.NewValues.{new-values-staged}
use Rattle.gr_law_work.proofs.Needs.Bodies.{gathers-fit, updates-fit, signals-rise, calls-rise}

-- with every commit installed and the epoch adopted, what is left is the work of a round
todo-round : {V A : Type 0} (co : Coordinator) (p : ℕ) (h : Host V A) → co.mode ≡ mode.Running → h.installed ≡ co.commits → h.epoch ≡ co.epoch
    → todo co p h ≡ todo_in_round h.inbox h.epoch (others co p) (exchange_of h) h.reported
unfolding todo todo_in_round
todo-round co p h running installed now =
    let no_install : nat_lt h.installed co.commits ≡ false = le-ltb h.installed co.commits (omega (arith, installed)) in
    let no_adopt : nat_lt h.epoch co.epoch ≡ false = le-ltb h.epoch co.epoch (omega (arith, now)) in
    rw (running, no_install, no_adopt) (by_test h.computed
    (λ k. rw k refl)
    (λ k. rw k refl))

-- a place that has computed its new values has computed two stages
past-update : (s : Stage) (b : Bool) → is_past_update s b ≡ true → 1 < place_in s + cond b 1 0
past-update stage.Update true e = omega arith
past-update stage.Update false e = absurd (let bad : false ≡ true = e in cc)
past-update stage.Signal b e = omega arith
past-update stage.Call b e = omega arith
past-update stage.End b e = omega arith
past-update stage.Gather b e = absurd (let bad : false ≡ true = e in cc)
past-update stage.Ask b e = absurd (let bad : false ≡ true = e in cc)
past-update stage.Grant b e = absurd (let bad : false ≡ true = e in cc)

module _ {V A : Type 0} (P : Program V A) (L : ProgramLaws P) (t : Truth V) (c : Cluster V A) (p : ℕ) (h : Host V A) (AG : Agree P t c) (at : host c p ≡ Some h)
    (running : c.coordinator.mode ≡ mode.Running) (installed : h.installed ≡ c.coordinator.commits) (now : h.epoch ≡ c.coordinator.epoch) where
  no-rebuild : is_rebuild c.coordinator.mode ≡ false
  no-rebuild = ap is_rebuild running

  pub may-act : MayAct P c.coordinator p h
  may-act =
      let co = c.coordinator in
      let S = AG.committed.sound in
      let N = steady-here P t c AG no-rebuild L in
      let shown = shows-stable P t c AG no-rebuild p h at installed in
      let le : c.coordinator.commits ≤ h.installed = omega (arith, installed) in
      let le' : c.coordinator.epoch ≤ h.epoch = omega (arith, now) in
      let E : AtEpoch P (view_of P c) (wanted_in P c) t co p h (log c p) = at-epoch P t c AG p h at le le' in
      let good = inbox-good P t c L AG no-rebuild running p h at le le' in
      let staged_here = pending-here P t c L AG no-rebuild running p h at le le' in
      record {
        sources = subst (SourcesReady P h.stable) (sym shown.1) (subst (λ rows. SourcesReady P rows (arcs_at t p)) (sym shown.0) (sources-ready P t p S N));
        values = subst (ValuesFit P) (sym shown.0) (values-fit P t p S N);
        gathers = gathers-fit P (view_of P c) (wanted_in P c) t co p h.inbox good S L N (others co p);
        updates = updates-fit P (view_of P c) (wanted_in P c) t co p h.inbox good S h.stable shown.0 (others co p);
        signals = signals-rise P (view_of P c) (wanted_in P c) t co p h.inbox good S (others co p);
        calls = calls-rise P (view_of P c) (wanted_in P c) t co p h.inbox good S (others co p);
        pending = ap (map vertex_of) staged_here ∙ (vertices-staged P t p S (progress h) ∙ sym (ap (map vertex_of) shown.0));
        staged = λ on.
            let late : 1 < progress h = past-update h.stage h.computed on in
            let ps = parties co in
            let once = occurs-once ps (parties-rise P t c AG no-rebuild) p (party P t c AG p h at) in
            let dead = none-dead P t c L AG no-rebuild running p h at le le' in
            let edges = placed P t c AG no-rebuild dead in
            let brought : bodies h.inbox h.epoch stage.Gather (others co p) ≡ gathers_of P t p (others co p)
            = gathers-here P t (view_of P c) (wanted_in P c) co L S N p ps (mastered P t c AG no-rebuild dead) once edges h.inbox good h.epoch now h.stable shown.0 h.arcs shown.1
            (needed-before P t c L AG no-rebuild running p h at le le' stage.Update (omega (arith, late)) refl) in
            let is = ap (λ e. bodies h.inbox e stage.Gather (others co p)) (sym now) ∙ brought in
            subst (λ rows. NewValuesAreStaged P p rows h.arcs (bodies h.inbox co.epoch stage.Gather (others co p)) h.pending) (sym shown.0)
            (subst (λ arcs. NewValuesAreStaged P p (rows_at P t p) arcs (bodies h.inbox co.epoch stage.Gather (others co p)) h.pending) (sym shown.1)
            (subst (λ gathers. NewValuesAreStaged P p (rows_at P t p) (arcs_at t p) gathers h.pending) (sym is)
            (subst (NewValuesAreStaged P p (rows_at P t p) (arcs_at t p) (gathers_of P t p (others co p))) (sym staged_here)
            (new-values-staged P t p L S N ps once edges (progress h) late))));
        awaits = λ computed no_end.
            let some = find-any (λ q. not (has h.sent q)) (λ q. ⊤) (others co p) (E.unsent_left computed no_end) (Each-always (λ q. ⊤) (λ q. tt) (others co p)) in
            subst IsSome (sym some.1) refl;
        next = todo-round co p h running installed now;
      }
