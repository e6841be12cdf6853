use Rattle.std.proofs.Common.{◌≡◌, ◌<◌, ◌-◌, ◌+◌, List, [], ◌∷◌, length, take, drop, sym, ap, ◌∙◌, inl, inr, refl, arith}
use Rattle.std.proofs.lemmas.Result.{err_from_is_err_and}
use Rattle.gr_edges.specs.declared.line.LineFound.{LineFound}
use Rattle.gr_edges.specs.Fields.{line_of}
use Rattle.gr_edges.specs.Reading.{lines_of}
use Rattle.gr_text.proofs.Lines.{line-first, line-last, line-there, rest-shorter}
use Rattle.gr_text.proofs.Prefixes.{drop-item}
use Rattle.gr_edges.proofs.Prefixes.{taken-after, fault-found, no-fault, all-edges, all-ids, none-taken}
use Rattle.gr_edges.proofs.read.take_lines.Goals as goal

pub lines-init : goal.lines-init
lines-init c = record {
  short = omega arith;
  taken = none-taken c.args.undirected (lines_of c.args.bytes.now) c.args.edges.now c.args.ids.now c.requires.no_edge c.requires.no_id;
  left = refl;
}

pub returns-in_err-take_line : goal.returns-in_err-take_line
returns-in_err-take_line c =
    let p = err_from_is_err_and c.from_residual.result c.from_residual.ensures.1 in
    let there = line-there line_of c.lines.rest.now c.line_len-len.result c.line_len-len.ensures.count c.line_len-len.ensures.within in
    let left : c.read_line-line.result ∷ there.0 ≡ drop c.lines.done (lines_of c.args.bytes.now) = ap (λ (l : LineFound). l ∷ there.0) c.read_line-line.ensures ∙ sym there.1 ∙ c.lines.invariant.left in
    rw (p.1, p.2) (record {
      accepted = tt;
      edges = tt;
      ids = tt;
      few = tt;
      refused = elim c.in_err-take_line.ensures.err [
        | inl no_memory ↦ inl no_memory
        | inr is ↦ inr (fault-found c.args.undirected (lines_of c.args.bytes.now) c.lines.done c.lines.edges c.lines.ids c.lines.invariant.taken c.read_line-line.result there.0 left c.in_err-take_line.field-0.0 is)
      ];
    })

pub returns-then-len-rest : goal.returns-then-len-rest
returns-then-len-rest c =
    let lines = lines_of c.args.bytes.now in
    let ok = c.in_ok-take_line.ensures in
    let left : c.read_line-line.result ∷ [] ≡ drop c.lines.done lines = ap (λ (l : LineFound). let one : List LineFound = l ∷ [] in one) c.read_line-line.ensures ∙ sym (line-last line_of c.lines.rest.now c.line_len-len.result c.line_len-len.ensures.count c.if-len-rest.true) ∙ c.lines.invariant.left in
    let taken = taken-after c.args.undirected lines c.lines.done c.lines.edges c.lines.ids c.lines.invariant.taken c.read_line-line.result [] left c.take_line.new.edges c.take_line.new.ids ok.edges ok.ids ok.sound ok.size in
    let rest = drop-item lines c.lines.done c.read_line-line.result [] left in
    record {
      accepted = no-fault c.args.undirected lines (c.lines.done + 1) c.take_line.new.edges c.take_line.new.ids taken rest;
      edges = all-edges c.args.undirected lines (c.lines.done + 1) c.take_line.new.edges c.take_line.new.ids taken rest;
      ids = all-ids c.args.undirected lines (c.lines.done + 1) c.take_line.new.edges c.take_line.new.ids taken rest;
      few = ok.few;
      refused = tt;
    }

pub lines-preserved : goal.lines-preserved
lines-preserved c =
    let lines = lines_of c.args.bytes.now in
    let text = c.lines.rest.now in
    let n = c.line_len-len.result in
    let ok = c.in_ok-take_line.ensures in
    let below : n < length text = omega (arith, c.line_len-len.ensures.within, c.if-len-rest.false) in
    let more = lines_of (take (length text - (n + 1)) (drop (n + 1) text)) in
    let left : c.read_line-line.result ∷ more ≡ drop c.lines.done lines = ap (λ (l : LineFound). l ∷ more) c.read_line-line.ensures ∙ sym (line-first line_of text n c.line_len-len.ensures.count below) ∙ c.lines.invariant.left in
    record {
      short = rest-shorter c.lines.done n text (length c.args.bytes.now) below c.lines.invariant.short;
      taken = taken-after c.args.undirected lines c.lines.done c.lines.edges c.lines.ids c.lines.invariant.taken c.read_line-line.result more left c.take_line.new.edges c.take_line.new.ids ok.edges ok.ids ok.sound ok.size;
      left = drop-item lines c.lines.done c.read_line-line.result more left;
    }
