use Rattle.transcribe.proofs.transcription.rewrite_to.Goals as goal

pub returns-in-Flat-clause-rewritten : goal.returns-in-Flat-clause-rewritten
returns-in-Flat-clause-rewritten g c = rw c.in-Flat.is c.rewrite.ensures.rewritten

pub returns-in-Lined-clause-rewritten : goal.returns-in-Lined-clause-rewritten
returns-in-Lined-clause-rewritten g c = rw c.in-Lined.is c.rewrite-in-Lined.ensures.rewritten

pub returns-in-Hexadecimal-clause-rewritten : goal.returns-in-Hexadecimal-clause-rewritten
returns-in-Hexadecimal-clause-rewritten g c = rw c.in-Hexadecimal.is c.rewrite-in-Hexadecimal.ensures.rewritten
