-- A source can read from a reader of Rust's standard library, and a sink can write to a writer of this library. This
-- file names the parts of such sources and sinks for contracts.
use Rattle.std.specs.Prelude.{ℕ}
use Rattle.ca_io.specs.declared.standard.StdSource.{StdSource}
use Rattle.ca_io.specs.declared.standard.StdSink.{StdSink}

-- the reader from which the source reads
abbrev pub source_reader : {R : Type 0} → StdSource R → R
source_reader s = s.inner

-- how many reads of the source have failed
abbrev pub source_faults : {R : Type 0} → StdSource R → ℕ
source_faults s = s.faults

-- the writer to which the sink writes
abbrev pub sink_writer : {W : Type 0} → StdSink W → W
sink_writer s = s.inner

-- how many writes of the sink have failed
abbrev pub sink_faults : {W : Type 0} → StdSink W → ℕ
sink_faults s = s.faults
