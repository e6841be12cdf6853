use Rattle.std.proofs.Common.{◌∙◌, sym, inl, inr}
use Rattle.gr_copies.proofs.Gathering.{gathered-none, gathered-hit, gathered-not, gathered-full, both-true, not-both}
use Rattle.gr_copies.proofs.further.gather.Goals.{then-has-missing, else-has-missing}
use Rattle.gr_copies.proofs.further.gather.Goals as goal

pub loop-p-init : goal.loop-p-init
loop-p-init c = gathered-none c.args.before.places c.args.candidates c.args.from c.args.before.missing

pub loop-p-preserved : goal.loop-p-preserved
loop-p-preserved c =
    let cs = c.args.candidates in
    let p = c.loop-p.p in
    let n = c.args.before.missing in
    let ps = c.loop-p.places in
    let m = c.loop-p.missing in
    let was = c.loop-p.invariant in
    elim c.if-has-missing.branch [
      | then-has-missing w ↦
          let both = both-true c.has.result m w.if-has-missing.true in
          rw (w.places-is, w.missing-is, w.with-places.ensures) (gathered-hit c.args.before.places cs c.args.from p n ps m c.loop-p.auto.p was (sym c.has.ensures.test ∙ both.0) both.1)
      | else-has-missing w ↦ rw (w.places-is, w.missing-is) (elim (not-both c.has.result m w.if-has-missing.false) [
        | inl off ↦ gathered-not c.args.before.places cs c.args.from p n ps m c.loop-p.auto.p was (sym c.has.ensures.test ∙ off)
        | inr none ↦ gathered-full c.args.before.places cs c.args.from p n ps m c.loop-p.auto.p was none
      ])
    ]
