use Rattle.imitate.specs.Words.{FileNames}
use Rattle.imitate.specs.Commands.{named}
use Rattle.imitate.proofs.Quiet.{quiet-some, quiet-kept}
use Rattle.imitate.proofs.Outcomes.{reply-told}
use Rattle.imitate.proofs.Plans.{reply-fails}
use Rattle.gr_outside.specs.Files.{bytes_of}
use Rattle.std.proofs.Common.{◌≡◌, Some}
use Rattle.imitate.proofs.plain.plain.Goals as goal

pub returns-in-Err-reply : goal.returns-in-Err-reply
returns-in-Err-reply g c =
    let a = g.F.Files.seen c.args.files.now in
    let b = g.F.Files.seen c.load.new.files in
    let d = g.F.Files.seen c.load-2.new.files in
    let names : FileNames = named c.args.names in
    let graph = c.in-Ok.graph.items in
    let job = c.in-Ok-load.job.items in
    let first = c.in-Ok.ensures in
    let second = c.in-Ok-load.ensures in
    let told = reply-told a.told names graph job first.whole (quiet-some a b first.quiet (λ t. bytes_of t.files names.job ≡ Some job) second.whole) in
    record {
      shown = tt;
      ends = tt;
      fails = reply-fails a d (g.O.Sink.seen c.args.out.now) names (quiet-kept a b first.quiet d second.kept) graph job told c.in-Err-reply.why
          (rw c.deref.ensures.value at c.in-Err-reply.ensures.refused);
    }
