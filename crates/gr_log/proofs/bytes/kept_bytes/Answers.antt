use Rattle.std.proofs.Common.{◌∙◌, ap, sym, subst}
use Rattle.std.specs.List.{All}
use Rattle.gr_log.specs.Reading.{first_record}
use Rattle.gr_log.proofs.Written.{Byte, kept, kept-read, kept-literal, record-small}
use Rattle.gr_log.proofs.bytes.kept_bytes.Goals as goal

pub returns-clause-read_again : goal.returns-clause-read_again
returns-clause-read_again c =
    ap first_record (kept-literal c.args.number c.args.src c.args.dst c.args.weight _ _ _ _ c.to_le_bytes-n.ensures c.to_le_bytes-s.ensures c.to_le_bytes-d.ensures c.to_le_bytes-w.ensures)
    ∙ kept-read c.args.number c.args.src c.args.dst c.args.weight c.ranges.number.fits c.ranges.src.fits c.ranges.dst.fits c.ranges.weight.fits

pub returns-clause-bytes : goal.returns-clause-bytes
returns-clause-bytes c =
    subst (All Byte) (sym (kept-literal c.args.number c.args.src c.args.dst c.args.weight _ _ _ _ c.to_le_bytes-n.ensures c.to_le_bytes-s.ensures c.to_le_bytes-d.ensures c.to_le_bytes-w.ensures))
    (record-small (kept c.args.number c.args.src c.args.dst c.args.weight) (λ v i o m hs e. cc))
