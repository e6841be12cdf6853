use Rattle.std.proofs.Common.{◌≡◌, ◌∙◌, ◌∷◌, [], ℕ, List, length, eqb, ltb, refl, sym, ap, subst, arith}
use Rattle.std.specs.Prelude.{IsSomeAnd, IsTrue}
use Rattle.std.specs.List.{All, filter, find}
use Rattle.std.proofs.lemmas.List.Elements.{All-filter}
use Rattle.gr_base.specs.Rising.{RisesBy}
use Rattle.gr_batch.specs.declared.stage.Stage.TheVariants as stage
use Rattle.gr_batch.specs.Bodies.{parts_of}
use Rattle.gr_rules.specs.Inbox.{bodies}
use Rattle.gr_low.specs.Sources.{IsSource}
use Rattle.gr_rules.specs.Rows.{row, into}
use Rattle.gr_rules.specs.Round.{own_sum}
use Rattle.gr_high.specs.Parts.{with_part}
use Rattle.gr_round.specs.Needs.{PartsFit}
use Rattle.gr_round.proofs.Senders.{fits-one, items-fit, bodies-passed, bodies-skipped, bodies-nil, bodies-none, bodies-all}
use Rattle.gr_round.proofs.Sums.{joined, joined-one, joined-more, joined-whole}
use Rattle.gr_round.proofs.values.whole_sum.Goals as goal
use Rattle.gr_round.proofs.values.whole_sum.Goals.{then-has, else-has}

pub gather_low-sum-requires : goal.gather_low-sum-requires
gather_low-sum-requires g c = record {
  sources = All-filter (into c.args.v) (λ a. IsSomeAnd (row c.args.rows.now.stable a.edge.src) (IsSource (g.P.VertexProgram.program_of c.args.given.now.program.now))) c.args.given.now.arcs.now.stable c.requires.sources;
}

pub loop-p-init : goal.loop-p-init
loop-p-init g c =
    let p = g.P.VertexProgram.program_of c.args.given.now.program.now in
    record {
      places = λ more. absurd (omega arith);
      sum = c.gather_low-sum.ensures.sum ∙ sym (ap (joined p c.args.v (own_sum p c.args.rows.now.stable c.args.given.now.arcs.now.stable c.args.v)) (bodies-none c.args.given.now.inbox.now c.args.epoch stage.Gather c.args.senders));
      kept = c.gather_low-sum.ensures.kept;
    }

pub join_partials-sum-requires-clause-rise : goal.join_partials-sum-requires-clause-rise
join_partials-sum-requires-clause-rise g c =
    let p = g.P.VertexProgram.program_of c.args.given.now.program.now in
    let fit = fits-one c.args.given.now.inbox.now c.args.epoch stage.Gather (PartsFit p) c.args.senders c.loop-p.p c.requires.gathers (sym c.has.ensures.test ∙ c.if-has.true) in
    subst (RisesBy (λ x. x.vertex)) (sym c.parts_from-parts.ensures) (items-fit c.args.given.now.inbox.now c.args.epoch stage.Gather parts_of (PartsFit p) (RisesBy (λ x. x.vertex)) (λ i j d h l. absurd (omega arith)) (λ b k. k.rise) c.loop-p.p fit)

pub join_partials-sum-requires-clause-own : goal.join_partials-sum-requires-clause-own
join_partials-sum-requires-clause-own g c = c.loop-p.invariant.kept

pub join_partials-sum-requires-clause-parts : goal.join_partials-sum-requires-clause-parts
join_partials-sum-requires-clause-parts g c =
    let p = g.P.VertexProgram.program_of c.args.given.now.program.now in
    let fit = fits-one c.args.given.now.inbox.now c.args.epoch stage.Gather (PartsFit p) c.args.senders c.loop-p.p c.requires.gathers (sym c.has.ensures.test ∙ c.if-has.true) in
    subst (All (λ x. IsTrue (p.is_acc x.acc))) (sym c.parts_from-parts.ensures) (items-fit c.args.given.now.inbox.now c.args.epoch stage.Gather parts_of (PartsFit p) (All (λ x. IsTrue (p.is_acc x.acc))) (λ k d l. absurd (omega arith)) (λ b k. k.sums) c.loop-p.p fit)

pub loop-p-preserved : goal.loop-p-preserved
loop-p-preserved g c =
    let p = g.P.VertexProgram.program_of c.args.given.now.program.now in
    let inbox = c.args.given.now.inbox.now in
    let e = c.args.epoch in
    let others = c.args.senders in
    let v = c.args.v in
    let q = c.loop-p.p in
    let own = own_sum p c.args.rows.now.stable c.args.given.now.arcs.now.stable v in
    let before = bodies inbox e stage.Gather (filter (λ k. ltb k q) others) in
    elim c.if-has.branch [
      | then-has w ↦ record {
        places = λ more. c.has.ensures.places;
        sum = w.sum-is ∙ w.join_partials-sum.ensures.sum
            ∙ ap (λ xs. with_part p c.loop-p.sum (find (λ x. eqb x.vertex v) xs)) w.parts_from-parts.ensures
            ∙ joined-one p v inbox e c.loop-p.sum q
            ∙ ap (λ s. joined p v s (bodies inbox e stage.Gather (q ∷ []))) c.loop-p.invariant.sum
            ∙ sym (ap (joined p v own) (bodies-passed inbox e stage.Gather q others c.has.ensures.places.rise (sym c.has.ensures.test ∙ w.if-has.true)) ∙ joined-more p v own before (bodies inbox e stage.Gather (q ∷ [])));
        kept = subst (λ a. IsTrue (p.is_acc a)) (sym w.sum-is) w.join_partials-sum.ensures.kept;
      }
      | else-has w ↦ record {
        places = λ more. c.has.ensures.places;
        sum = w.sum-is ∙ c.loop-p.invariant.sum ∙ sym (ap (joined p v own) (bodies-skipped inbox e stage.Gather q others (sym c.has.ensures.test ∙ w.if-has.false)));
        kept = subst (λ a. IsTrue (p.is_acc a)) (sym w.sum-is) c.loop-p.invariant.kept;
      }
    ]

pub returns-clause-sum : goal.returns-clause-sum
returns-clause-sum g c =
    let p = g.P.VertexProgram.program_of c.args.given.now.program.now in
    let inbox = c.args.given.now.inbox.now in
    let e = c.args.epoch in
    let others = c.args.senders in
    let v = c.args.v in
    let own = own_sum p c.args.rows.now.stable c.args.given.now.arcs.now.stable v in
    let end : c.loop-p.p ≡ 64 = omega arith in
    c.loop-p.invariant.sum ∙ ap (λ n. joined p v own (bodies inbox e stage.Gather (filter (λ k. ltb k n) others))) end
    ∙ ap (joined p v own) (bodies-all inbox e stage.Gather others (c.loop-p.invariant.places (omega arith)).below)
    ∙ joined-whole p v c.args.rows.now.stable c.args.given.now.arcs.now.stable (bodies inbox e stage.Gather others)

pub returns-clause-kept : goal.returns-clause-kept
returns-clause-kept g c = c.loop-p.invariant.kept

pub returns-then-count-eq0-clause-sum : goal.returns-then-count-eq0-clause-sum
returns-then-count-eq0-clause-sum g c =
    let p = g.P.VertexProgram.program_of c.args.given.now.program.now in
    let inbox = c.args.given.now.inbox.now in
    let own = own_sum p c.args.rows.now.stable c.args.given.now.arcs.now.stable c.args.v in
    let none : c.args.senders ≡ [] = nothing c.args.senders (omega arith) in
    c.gather_low-sum.ensures.sum
    ∙ sym (ap (λ ps. joined p c.args.v own (bodies inbox c.args.epoch stage.Gather ps)) none ∙ ap (joined p c.args.v own) (bodies-nil inbox c.args.epoch stage.Gather))
    ∙ joined-whole p c.args.v c.args.rows.now.stable c.args.given.now.arcs.now.stable (bodies inbox c.args.epoch stage.Gather c.args.senders)
  where
    nothing : (ps : List ℕ) → length ps ≡ 0 → ps ≡ []
    nothing [] is = refl
    nothing (p ∷ ps) is = absurd (omega arith)
