use Rattle.std.proofs.Common.{◌≡◌, ◌∙◌, ap, sym, subst, arith}
use Rattle.std.specs.List.{All}
use Rattle.std.specs.Int.{w64, to_le_bytes}
use Rattle.gr_log.specs.declared.record.LogRecord.TheVariants as entry
use Rattle.gr_log.specs.Reading.{first_record}
use Rattle.gr_log.proofs.Written.{Byte, word, held-read, held-literal, record-small}
use Rattle.gr_log.proofs.bytes.held_bytes.Goals as goal

pub returns-clause-written : goal.returns-clause-written
returns-clause-written c =
    let holders = c.to_le_bytes-h.ensures ∙ ap (to_le_bytes w64) (sym (word c.args.vertex c.args.indeg c.args.outdeg c.args.master c.args.holders c.word_of.result c.ranges.vertex.fits c.ranges.indeg.fits c.ranges.outdeg.fits c.word_of.type_inv c.word_of.ensures)) in
    held-literal c.args.vertex c.args.indeg c.args.outdeg c.args.master c.args.holders _ _ _ _ c.to_le_bytes-v.ensures c.to_le_bytes-i.ensures c.to_le_bytes-o.ensures holders

pub returns-clause-read_again : goal.returns-clause-read_again
returns-clause-read_again c =
    ap first_record (returns-clause-written c)
    ∙ held-read c.args.vertex c.args.indeg c.args.outdeg c.args.master c.args.holders c.word_of.result c.ranges.vertex.fits c.ranges.indeg.fits c.ranges.outdeg.fits c.word_of.type_inv c.word_of.ensures

pub returns-clause-bytes : goal.returns-clause-bytes
returns-clause-bytes c =
    subst (All Byte) (sym (returns-clause-written c))
    (record-small (entry.Held c.args.vertex c.args.indeg c.args.outdeg c.args.master c.args.holders) (λ v i o m hs e. let is : c.args.master ≡ m = cc in omega arith))
