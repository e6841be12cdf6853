use Rattle.std.proofs.Common.{◌∙◌, ◌∷◌, ◌+◌, ◌++◌, [], ℕ, List, take, drop, ap, sym, arith}
use Rattle.gr_log.specs.Reading.{read}
use Rattle.gr_log.proofs.Logs.{step-fits, step-reads, end-reads}
use Rattle.gr_log.proofs.edge_log.EdgeLog.records.Goals as goal

pub loop-record-smaller : goal.loop-record-smaller
loop-record-smaller c =
    let bs = take c.self.inside.committed c.deref.result.now in
    let fits = step-fits bs c.loop-record.at c.loop-record.records c.args.self.now.committed c.loop-record.invariant.inside c.loop-record.invariant.read c.in-Some.record (sym c.first_record.ensures ∙ c.in-Some.is) in
    omega (arith, fits.0, fits.1, c.size-at.ensures)

pub loop-record-preserved : goal.loop-record-preserved
loop-record-preserved c =
    let bs = take c.self.inside.committed c.deref.result.now in
    let is = sym c.first_record.ensures ∙ c.in-Some.is in
    let fits = step-fits bs c.loop-record.at c.loop-record.records c.args.self.now.committed c.loop-record.invariant.inside c.loop-record.invariant.read c.in-Some.record is in
    let reads = step-reads bs c.loop-record.at c.loop-record.records c.args.self.now.committed c.loop-record.invariant.inside c.loop-record.invariant.read c.in-Some.record is in
    record {
      inside = omega (arith, fits.0, c.size-at.ensures);
      read =
          ap (λ (rs : List _). rs ++ (read (drop (c.loop-record.at + c.size-at.result) bs)).0) c.in_ok-push.ensures.ok
          ∙ ap (λ (n : ℕ). (c.loop-record.records ++ c.in-Some.record ∷ []) ++ (read (drop (c.loop-record.at + n) bs)).0) c.size-at.ensures ∙ reads;
    }

pub returns : goal.returns
returns c =
    let bs = take c.self.inside.committed c.deref.result.now in
    end-reads bs c.loop-record.at c.loop-record.records c.args.self.now.committed c.loop-record.invariant.inside c.loop-record.invariant.read (sym c.first_record.ensures ∙ c.in_default.is)
