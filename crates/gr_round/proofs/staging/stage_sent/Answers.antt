use Rattle.std.proofs.Common.{◌≡◌, ◌∙◌, ◌+◌, ◌-◌, ◌++◌, ◌∷◌, [], ℕ, ltb, map, List, sym, ap, subst, arith}
use Rattle.std.specs.Prelude.{flat_map, not, IsSome}
use Rattle.std.specs.List.{All, filter}
use Rattle.std.proofs.lemmas.Grind.{flat_map-append}
use Rattle.gr_base.specs.Rising.{RisesBy}
use Rattle.gr_batch.specs.declared.body.NewValue.{NewValue}
use Rattle.gr_batch.specs.declared.stage.Stage.TheVariants as stage
use Rattle.gr_batch.specs.Bodies.{values_of}
use Rattle.gr_rows.specs.Layers.{CopyLayers, vertex_of}
use Rattle.gr_rules.specs.Rows.{row, with_values}
use Rattle.gr_rules.specs.Inbox.{bodies}
use Rattle.gr_round.specs.Needs.{UpdateFits}
use Rattle.gr_round.proofs.Senders.{fits-one, items-fit, bodies-before, bodies-not_before, bodies-past, bodies-from}
use Rattle.gr_round.proofs.Staged.{values-append, values-nil, vertices-values, known-same}
use Rattle.gr_round.proofs.staging.stage_sent.Goals as goal
use Rattle.gr_round.proofs.staging.stage_sent.Goals.{then-has, else-has}

pub loop-k-init : goal.loop-k-init
loop-k-init g c =
    let rows = c.args.rows.now in
    record {
      places = c.has-places.ensures.places;
      rows = ap (λ l. record rows { pending = l }) (sym (ap (λ bs. with_values (flat_map values_of bs) rows.pending) (bodies-past c.args.inbox.now c.args.party.now.epoch stage.Update c.args.party.now.others c.has-places.ensures.places.below) ∙ values-nil rows.pending));
    }

pub take_updates-requires-clause-rise : goal.take_updates-requires-clause-rise
take_updates-requires-clause-rise g c =
    let fit = fits-one c.args.inbox.now c.args.party.now.epoch stage.Update (UpdateFits c.args.rows.now.stable) c.args.party.now.others _ c.requires.updates (sym c.has.ensures.test ∙ c.if-has.true) in
    subst (RisesBy (λ n. n.vertex)) (sym c.values_from.ensures) (items-fit c.args.inbox.now c.args.party.now.epoch stage.Update values_of (UpdateFits c.args.rows.now.stable) (RisesBy (λ n. n.vertex)) (λ i j d h l. absurd (omega arith)) (λ b k. k.rise) _ fit)

pub take_updates-requires-clause-known : goal.take_updates-requires-clause-known
take_updates-requires-clause-known g c =
    let start = c.args.rows.now in
    let same : map vertex_of c.loop-k.rows.pending ≡ map vertex_of start.stable =
    ap (λ (l : CopyLayers g.row.V.Denot). map vertex_of l.pending) c.loop-k.invariant.rows ∙ vertices-values _ start.pending ∙ c.requires.pending in
    let fit = fits-one c.args.inbox.now c.args.party.now.epoch stage.Update (UpdateFits start.stable) c.args.party.now.others _ c.requires.updates (sym c.has.ensures.test ∙ c.if-has.true) in
    let R = λ (ns : List (NewValue g.row.V.Denot)). All (λ n. IsSome (row c.loop-k.rows.pending n.vertex)) ns in
    subst R (sym c.values_from.ensures) (items-fit c.args.inbox.now c.args.party.now.epoch stage.Update values_of (UpdateFits start.stable) R (λ k d l. absurd (omega arith))
    (λ b k. λ i d l. known-same c.loop-k.rows.pending start.stable _ same (k.known i d l)) _ fit)

pub loop-k-preserved : goal.loop-k-preserved
loop-k-preserved g c =
    let start = c.args.rows.now in
    let inbox = c.args.inbox.now in
    let e = c.args.party.now.epoch in
    let others = c.args.party.now.others in
    let k = c.loop-k.k in
    let q = 63 - k in
    let up : q + 1 ≡ 64 - k = omega arith in
    let now : 64 - (k + 1) ≡ q = omega arith in
    let before = λ (n : ℕ). bodies inbox e stage.Update (filter (λ p. not (ltb p n)) others) in
    record {
      places = c.loop-k.invariant.places;
      rows = elim c.if-has.branch [
        | then-has w ↦
            w.rows-is ∙ w.take_updates.ensures
            ∙ ap (λ ns. record (c.loop-k.rows) { pending = with_values ns c.loop-k.rows.pending }) w.values_from.ensures
            ∙ ap (λ (l : CopyLayers g.row.V.Denot). record l { pending = with_values (flat_map values_of (bodies inbox e stage.Update (q ∷ []))) l.pending }) c.loop-k.invariant.rows
            ∙ ap (λ l. record start { pending = l }) (
            sym (values-append (flat_map values_of (bodies inbox e stage.Update (q ∷ []))) (flat_map values_of (before (64 - k))) start.pending)
            ∙ ap (λ ns. with_values ns start.pending) (
            sym (flat_map-append values_of (bodies inbox e stage.Update (q ∷ [])) (before (64 - k)))
            ∙ ap (flat_map values_of) (ap (λ n. bodies inbox e stage.Update (q ∷ []) ++ before n) (sym up) ∙ sym (bodies-before inbox e stage.Update q others c.loop-k.invariant.places.rise (sym c.has.ensures.test ∙ w.if-has.true)) ∙ ap before (sym now))))
        | else-has w ↦
            w.rows-is ∙ c.loop-k.invariant.rows
            ∙ ap (λ bs. record start { pending = with_values (flat_map values_of bs) start.pending }) (ap before (sym up) ∙ sym (bodies-not_before inbox e stage.Update q others (sym c.has.ensures.test ∙ w.if-has.false)) ∙ ap before (sym now))
      ];
    }

pub returns : goal.returns
returns g c =
    let start = c.args.rows.now in
    let end : 64 - c.loop-k.k ≡ 0 = omega arith in
    let before = λ (n : ℕ). bodies c.args.inbox.now c.args.party.now.epoch stage.Update (filter (λ p. not (ltb p n)) c.args.party.now.others) in
    c.loop-k.invariant.rows ∙ ap (λ bs. record start { pending = with_values (flat_map values_of bs) start.pending }) (ap before end ∙ bodies-from c.args.inbox.now c.args.party.now.epoch stage.Update c.args.party.now.others)
