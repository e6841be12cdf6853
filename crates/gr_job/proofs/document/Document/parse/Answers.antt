use Rattle.std.proofs.lemmas.Bool.{false≢true}
use Rattle.gr_job.proofs.Documents.{document_of-read, document_of-refused}
use Rattle.gr_job.proofs.document.Document.parse.Goals as goal

pub returns-in-Ok-clause-ok : goal.returns-in-Ok-clause-ok
returns-in-Ok-clause-ok c = document_of-read _ _ c.in-Ok.ensures.ok.0 c.in-Ok.ensures.ok.1

pub returns-else-is_memory-clause-refused : goal.returns-else-is_memory-clause-refused
returns-else-is_memory-clause-refused c = λ _. document_of-refused _ (c.in-Err.ensures.refused (λ is. false≢true (c.if-is_memory.ensures.1 is)))
