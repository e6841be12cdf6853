use Rattle.std.proofs.Common.{◌≡◌, ◌∙◌, Some, Ok, ap}
use Rattle.imitate.specs.Words.{FileNames}
use Rattle.imitate.specs.Commands.{named}
use Rattle.imitate.specs.Reading.{plan_of}
use Rattle.imitate.specs.Accepted.{plan_in}
use Rattle.imitate.specs.Outcome.{plan_to}
use Rattle.imitate.proofs.Quiet.{some-then}
use Rattle.imitate.proofs.Plans.{plan-fails, unplayed-fails, played-ends, played-shown, memory-fails}
use Rattle.imitate.proofs.run.run.Goals as goal

pub returns-in-Err-read_plan : goal.returns-in-Err-read_plan
returns-in-Err-read_plan g c =
    let a = g.F.Files.seen c.args.files.now in
    let b = g.F.Files.seen c.load_inputs.new.files in
    let names : FileNames = named c.args.names in
    let i = c.in-Ok.inputs in
    record {
      shown = tt;
      ends = tt;
      fails = plan-fails a b (g.O.Sink.seen c.args.out.now) names c.in-Ok.ensures.kept i.graph.items i.job.items i.schedule.items c.in-Ok.ensures.told c.in-Err-read_plan.why
          (rw (c.deref.ensures.value, c.deref-2.ensures.value, c.deref-3.ensures.value) at c.in-Err-read_plan.ensures.refused);
    }

pub returns-in-Err-play_plan : goal.returns-in-Err-play_plan
returns-in-Err-play_plan g c =
    let a = g.F.Files.seen c.args.files.now in
    let b = g.F.Files.seen c.load_inputs.new.files in
    let d = g.F.Files.seen c.play_plan.new.files in
    let names : FileNames = named c.args.names in
    let i = c.in-Ok.inputs in
    let plan = plan_in c.in-Ok-read_plan.accepted in
    let read = rw (c.deref.ensures.value, c.deref-2.ensures.value, c.deref-3.ensures.value) at c.in-Ok-read_plan.ensures.read in
    let accepted = some-then a.told (λ t. plan_to t names ≡ Some (plan_of i.graph.items i.job.items i.schedule.items)) (λ t. plan_to t names ≡ Some (Ok plan)) c.in-Ok.ensures.told (λ t e. e ∙ ap Some read) in
    record {
      shown = tt;
      ends = tt;
      fails = unplayed-fails a b d c.in-Ok.ensures.quiet names plan accepted (g.O.Sink.seen c.args.out.now) c.in-Err-play_plan.why c.in-Err-play_plan.ensures.unplayed;
    }

pub returns-in-Ok-write_whole : goal.returns-in-Ok-write_whole
returns-in-Ok-write_whole g c =
    let a = g.F.Files.seen c.args.files.now in
    let b = g.F.Files.seen c.load_inputs.new.files in
    let d = g.F.Files.seen c.play_plan.new.files in
    let out = g.O.Sink.seen c.args.out.now in
    let out' = g.O.Sink.seen c.write_whole.new.sink in
    let names : FileNames = named c.args.names in
    let i = c.in-Ok.inputs in
    let plan = plan_in c.in-Ok-read_plan.accepted in
    let run = c.in-Ok-play_plan.told in
    let read = rw (c.deref.ensures.value, c.deref-2.ensures.value, c.deref-3.ensures.value) at c.in-Ok-read_plan.ensures.read in
    let accepted = some-then a.told (λ t. plan_to t names ≡ Some (plan_of i.graph.items i.job.items i.schedule.items)) (λ t. plan_to t names ≡ Some (Ok plan)) c.in-Ok.ensures.told (λ t e. e ∙ ap Some read) in
    let gains = rw c.deref-4.ensures.value at c.in-Ok-write_whole.ensures.whole in
    let played = c.in-Ok-play_plan.ensures.played in
    record {
      shown = played-shown a b d c.in-Ok.ensures.quiet names plan accepted run.ended run.text.items played out out' gains;
      ends = played-ends a b d c.in-Ok.ensures.quiet names plan accepted run.ended run.text.items played out out' gains;
      fails = tt;
    }

pub returns : goal.returns
returns g c =
    let a = g.F.Files.seen c.args.files.now in
    let b = g.F.Files.seen c.load_inputs.new.files in
    let d = g.F.Files.seen c.play_plan.new.files in
    let out = g.O.Sink.seen c.args.out.now in
    let out' = g.O.Sink.seen c.write_whole.new.sink in
    let names : FileNames = named c.args.names in
    let i = c.in-Ok.inputs in
    let plan = plan_in c.in-Ok-read_plan.accepted in
    let run = c.in-Ok-play_plan.told in
    let read = rw (c.deref.ensures.value, c.deref-2.ensures.value, c.deref-3.ensures.value) at c.in-Ok-read_plan.ensures.read in
    let accepted = some-then a.told (λ t. plan_to t names ≡ Some (plan_of i.graph.items i.job.items i.schedule.items)) (λ t. plan_to t names ≡ Some (Ok plan)) c.in-Ok.ensures.told (λ t e. e ∙ ap Some read) in
    let part = rw c.deref-4.ensures.value at c.in-Err-OutOfMemory.ensures.part in
    record {
      shown = tt;
      ends = tt;
      fails = memory-fails a b d c.in-Ok.ensures.quiet names plan accepted run.ended run.text.items c.in-Ok-play_plan.ensures.played out out' (part.0, part.2)
          (g.met.F.Files.begun_told c.play_plan.new.files);
    }
