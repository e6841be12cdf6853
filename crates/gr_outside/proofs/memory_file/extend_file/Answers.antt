use Rattle.std.proofs.Common.{List, ℕ, [], ◌++◌, Option, sym, ap, ◌∙◌}
use Rattle.std.specs.Prelude.{unwrap_or}
use Rattle.gr_outside.specs.Memory.{with_file}
use Rattle.gr_outside.proofs.NamedFiles.{with_file-read, with_file-absent, bytes_of-read, bytes_of-absent}
use Rattle.gr_outside.proofs.memory_file.extend_file.Goals as goal

pub returns-in_ok-extend-in-Some-clause-ok : goal.returns-in_ok-extend-in-Some-clause-ok
returns-in_ok-extend-in-Some-clause-ok c =
    let fs = c.args.files.now.items in
    let name = c.args.name.now in
    let found = bytes_of-read fs name c.in-Some.i (cc (c.in-Some.ensures, c.deref.ensures.value)) c.index_mut-file.result.now c.index_mut-file.ensures.value in
    with_file-read fs name c.in-Some.i (cc (c.in-Some.ensures, c.deref.ensures.value)) c.index_mut-file.result.now c.index_mut-file.ensures.value c.extend.new.self _ c.in_ok-extend-in-Some.ensures.ok
    ∙ ap (λ (o : Option (List ℕ)). with_file fs name (unwrap_or o [] ++ c.args.bytes.now)) (sym found)

pub returns-in_ok-push-in-None-clause-ok : goal.returns-in_ok-push-in-None-clause-ok
returns-in_ok-push-in-None-clause-ok c =
    let fs = c.args.files.now.items in
    let name = c.args.name.now in
    let absent = bytes_of-absent fs name (cc (c.in-None.ensures, c.deref.ensures.value)) in
    c.in_ok-push-in-None.ensures.items ∙ with_file-absent fs name (cc (c.in-None.ensures, c.deref.ensures.value)) _ c.args.bytes.now c.in_ok-new-in-None.ensures
    ∙ ap (λ (o : Option (List ℕ)). with_file fs name (unwrap_or o [] ++ c.args.bytes.now)) (sym absent)
