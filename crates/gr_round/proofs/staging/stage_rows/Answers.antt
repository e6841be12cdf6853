use Rattle.std.proofs.Common.{List, ℕ, ◌∙◌, ◌++◌, flat_map, refl, sym, ap, subst}
use Rattle.std.specs.Prelude.{IsSome}
use Rattle.std.specs.List.{All}
use Rattle.gr_base.specs.Rising.{has}
use Rattle.gr_batch.specs.declared.stage.Stage.TheVariants as stage
use Rattle.gr_rules.specs.Rows.{row}
use Rattle.gr_rules.specs.Inbox.{bodies}
use Rattle.gr_rules.specs.Round.{new_value}
use Rattle.gr_rules.specs.AtPlace.{known_values, all_next, round_rows}
use Rattle.gr_batch.specs.Stages.{is_end}
use Rattle.gr_batch.specs.Bodies.{signals_of, calls_of}
use Rattle.gr_signal.specs.Signals.{signals_to}
use Rattle.gr_signal.proofs.Signalled.{signals-signalled}
use Rattle.gr_round.proofs.Rounds.{due-same}
use Rattle.gr_round.proofs.Selecting.{is_own, own-are}
use Rattle.gr_round.proofs.Staged.{chosen-known}
use Rattle.gr_round.proofs.staging.stage_rows.Goals as goal

pub take_updates-requires-clause-known : goal.take_updates-requires-clause-known
take_updates-requires-clause-known g c =
    let p = g.P.VertexProgram.program_of c.args.given.now.program.now in
    let rows = c.args.rows.now in
    let arcs = c.args.given.now.arcs.now.stable in
    let gathers = bodies c.args.given.now.inbox.now c.args.party.now.epoch stage.Gather c.args.party.now.others in
    subst (All (λ n. IsSome (row rows.pending n.vertex))) (sym (c.as_slice.ensures ∙ c.in_ok-news-in-Update.ensures.values ∙ own-are p rows.stable arcs gathers c.args.party.now.place))
    (chosen-known (is_own c.args.party.now.place) (new_value p rows.stable arcs gathers) (λ x. refl) rows.stable rows.pending c.requires.needs.pending)

pub returns-in_ok-next-in-End-clause-ok : goal.returns-in_ok-next-in-End-clause-ok
returns-in_ok-next-in-End-clause-ok g c =
    let p = g.P.VertexProgram.program_of c.args.given.now.program.now in
    let rows = c.args.rows.now in
    let arcs = c.args.given.now.arcs.now.stable in
    let party = c.args.party.now in
    let inbox = c.args.given.now.inbox.now in
    let known = known_values p party.place party.epoch party.others inbox rows.stable arcs in
    let own = ap (λ ts. signals_to ts party.place) (c.requires.targets (ap is_end c.in-End.is)) ∙ signals-signalled known rows.stable arcs party.place in
    let all : List ℕ → List ℕ = λ own. (own ++ flat_map signals_of (bodies inbox party.epoch stage.Signal party.others)) ++ flat_map calls_of (bodies inbox party.epoch stage.Call party.others) in
    c.take_calls.ensures
    ∙ ap (λ l. record rows { pending = l }) (
    due-same c.as_slice-in-End.result.now (all_next p party.place party.epoch party.others c.args.given.now.inbox.now rows.stable arcs) (λ v. ap (λ l. has l v) c.as_slice-in-End.ensures ∙ c.in_ok-next-in-End.ensures.members v ∙ ap (λ l. has (all l) v) own) rows.pending
    ∙ ap (λ s. round_rows p party.place party.epoch party.others c.args.given.now.inbox.now rows.stable arcs s rows.pending) (sym c.in-End.is))
