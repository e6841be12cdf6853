use Rattle.std.proofs.Common.{rules}
use Rattle.gr_outside.proofs.Written.{with_file-HasWritten}
use Rattle.gr_outside.proofs.memory_files.MemoryFilesFiles.begin.Goals as goal

pub returns-clause-begins : goal.returns-clause-begins
returns-clause-begins c = record {
  begun = search rules;
  made = rw (← c.self.view_is) (with_file-HasWritten _ c.put_file.new.files.items c.args.name.now _ c.in_ok-put_file.ensures.ok _ c.in_ok-begun.ensures.ok);
  refused = tt;
  counts = search rules;
}
