use Rattle.std.proofs.Common.{ℕ, List, [], ◌++◌, length, Some, rules, sym, ap, ◌∙◌, arith}
use Rattle.std.specs.Prelude.{string_bytes, unwrap_or}
use Rattle.std.specs.Option.{option_map}
use Rattle.std.proofs.lemmas.List.{take_all}
use Rattle.gr_outside.specs.Files.{bytes_of}
use Rattle.gr_outside.proofs.Written.{with_file-Grows}
use Rattle.gr_outside.proofs.memory_files.MemoryFilesFiles.append.Goals as goal

pub returns-in_ok-extend_file-clause-extends : goal.returns-in_ok-extend_file-clause-extends
returns-in_ok-extend_file-clause-extends c =
    let bytes = c.args.bytes.now in
    let name = c.as_str.result.now in
    let had : List ℕ = unwrap_or (bytes_of c.self.inside.files.items name) [] in
    record {
      within = search rules;
      some = search rules;
      gained = rw (← c.self.view_is) (with_file-Grows _ c.extend_file.new.files.items name (had ++ bytes) c.in_ok-extend_file.ensures.ok _
          (ap (option_map string_bytes) c.in-Some.is ∙ ap (λ (n : List ℕ). Some n) (sym c.as_str.ensures.value))
          (ap (λ (l : List ℕ). had ++ l) (sym (take_all (length bytes) bytes (omega arith)))));
      refused = tt;
      begun = search rules;
      counts = search rules;
    }
