-- The parts of a stream before anything has been read.
use Rattle.std.specs.Prelude.{[]}
use Rattle.yf_stream.specs.declared.documents.Parts.{Parts}

abbrev pub no_parts : Parts
no_parts = record { part = record { events = []; comments = []; escapes = [] }; documents = [] }
