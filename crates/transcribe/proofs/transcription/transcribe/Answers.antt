use Rattle.transcribe.proofs.transcription.transcribe.Goals as goal

pub returns-in-Flat-clause-transcribed : goal.returns-in-Flat-clause-transcribed
returns-in-Flat-clause-transcribed c = rw c.in-Flat.is c.rewrite_to.ensures.rewritten

pub returns-in-Lined-clause-transcribed : goal.returns-in-Lined-clause-transcribed
returns-in-Lined-clause-transcribed c = rw c.in-Lined.is c.rewrite_to-in-Lined.ensures.rewritten
