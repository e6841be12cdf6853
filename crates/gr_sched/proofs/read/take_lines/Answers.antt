use Rattle.std.proofs.Common.{◌≡◌, ◌<◌, ◌-◌, ◌+◌, List, [], ◌∷◌, length, take, drop, sym, ap, ◌∙◌, inl, inr, refl, arith}
use Rattle.std.proofs.lemmas.Result.{err_from_is_err_and}
use Rattle.gr_sched.specs.declared.line.LineFound.{LineFound}
use Rattle.gr_sched.specs.Reading.{line_of, lines_of}
use Rattle.gr_text.proofs.Lines.{line-first, line-last, line-there, rest-shorter}
use Rattle.gr_text.proofs.Prefixes.{drop-item}
use Rattle.gr_sched.proofs.Prefixes.{taken-after, fault-found, no-fault, all-lines, none-taken}
use Rattle.gr_sched.proofs.read.take_lines.Goals as goal

pub lines-init : goal.lines-init
lines-init c = record {
  short = omega arith;
  taken = none-taken (lines_of c.args.places c.args.bytes.now) c.args.lines.now c.requires.no_line;
  left = refl;
}

pub returns-in_err-take_line : goal.returns-in_err-take_line
returns-in_err-take_line c =
    let p = err_from_is_err_and c.from_residual.result c.from_residual.ensures.1 in
    let there = line-there (line_of c.args.places) c.lines.rest.now c.line_len-len.result c.line_len-len.ensures.count c.line_len-len.ensures.within in
    let left : c.read_line-found.result ∷ there.0 ≡ drop c.lines.done (lines_of c.args.places c.args.bytes.now) = ap (λ (l : LineFound). l ∷ there.0) c.read_line-found.ensures ∙ sym there.1 ∙ c.lines.invariant.left in
    rw (p.1, p.2) (record {
      accepted = tt;
      lines = tt;
      few = tt;
      refused = elim c.in_err-take_line.ensures.err [
        | inl no_memory ↦ inl no_memory
        | inr is ↦ inr (fault-found (lines_of c.args.places c.args.bytes.now) c.lines.done c.lines.lines c.lines.invariant.taken c.read_line-found.result there.0 left c.in_err-take_line.field-0.0 is)
      ];
    })

pub returns-then-len-rest : goal.returns-then-len-rest
returns-then-len-rest c =
    let all = lines_of c.args.places c.args.bytes.now in
    let ok = c.in_ok-take_line.ensures in
    let left : c.read_line-found.result ∷ [] ≡ drop c.lines.done all = ap (λ (l : LineFound). let one : List LineFound = l ∷ [] in one) c.read_line-found.ensures ∙ sym (line-last (line_of c.args.places) c.lines.rest.now c.line_len-len.result c.line_len-len.ensures.count c.if-len-rest.true) ∙ c.lines.invariant.left in
    let taken = taken-after all c.lines.done c.lines.lines c.lines.invariant.taken c.read_line-found.result [] left c.take_line.new.lines ok.lines ok.sound ok.count in
    let rest = drop-item all c.lines.done c.read_line-found.result [] left in
    record {
      accepted = no-fault all (c.lines.done + 1) c.take_line.new.lines taken rest;
      lines = all-lines all (c.lines.done + 1) c.take_line.new.lines taken rest;
      few = ok.few;
      refused = tt;
    }

pub lines-preserved : goal.lines-preserved
lines-preserved c =
    let all = lines_of c.args.places c.args.bytes.now in
    let text = c.lines.rest.now in
    let n = c.line_len-len.result in
    let ok = c.in_ok-take_line.ensures in
    let below : n < length text = omega (arith, c.line_len-len.ensures.within, c.if-len-rest.false) in
    let more = lines_of c.args.places (take (length text - (n + 1)) (drop (n + 1) text)) in
    let left : c.read_line-found.result ∷ more ≡ drop c.lines.done all = ap (λ (l : LineFound). l ∷ more) c.read_line-found.ensures ∙ sym (line-first (line_of c.args.places) text n c.line_len-len.ensures.count below) ∙ c.lines.invariant.left in
    record {
      short = rest-shorter c.lines.done n text (length c.args.bytes.now) below c.lines.invariant.short;
      taken = taken-after all c.lines.done c.lines.lines c.lines.invariant.taken c.read_line-found.result more left c.take_line.new.lines ok.lines ok.sound ok.count;
      left = drop-item all c.lines.done c.read_line-found.result more left;
    }
