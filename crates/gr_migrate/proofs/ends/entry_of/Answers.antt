use Rattle.std.proofs.Common.{ℕ, ◌∙◌, ◌<◌, [], Some, length, sym, ap, arith}
use Rattle.gr_log.specs.Directory.{Entry}
use Rattle.gr_base.proofs.Rising.{found-at, missing-at}
use Rattle.gr_migrate.proofs.ends.entry_of.Goals as goal

abbrev key : Entry → ℕ
key e = e.vertex

pub returns-then-at-entries : goal.returns-then-at-entries
returns-then-at-entries c =
    sym (missing-at key c.args.v c.args.entries.now c.place_of-at.result (record { vertex = 0; indeg = 0; outdeg = 0; master = 0; holders = [] }) c.requires (sym c.place_of-at.ensures)
    (λ l q. omega arith)).0

pub returns-then-entry-v : goal.returns-then-entry-v
returns-then-entry-v c =
    let xs = c.args.entries.now in
    let at = c.place_of-at.result in
    let lt : at < length xs = omega arith in
    let same = c.entry.view_is ∙ c.index-entries-at.is in
    ap Some same ∙ sym (found-at key c.args.v xs at c.index-entries-at.result c.requires (sym c.place_of-at.ensures) lt (sym (ap key same) ∙ c.if-entry-v.true)).0

pub returns-else-entry-v : goal.returns-else-entry-v
returns-else-entry-v c =
    let same = c.entry.view_is ∙ c.index-entries-at.is in
    sym (missing-at key c.args.v c.args.entries.now c.place_of-at.result c.index-entries-at.result c.requires (sym c.place_of-at.ensures) (λ l q. c.if-entry-v.false (ap key same ∙ q))).0
