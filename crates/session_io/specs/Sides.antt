-- What a session reads from, writes to and asks, at one moment: a contract relates the moments
-- before and after a call.
--     Input      the reader
--     Output     the writer
--     Outlets    the writer and the meter: what a session acts on
--     Sides      the reader, the writer and the meter
--     Streams    the reader and the writer
use Rattle.std.specs.Prelude.{ℕ, Option, List, []}
use Rattle.std.specs.Io.KnownBytes.{Appends}

-- A reader: the bytes that are left, if they are known, and the numbers of successful and of failed
-- reads.
pub record Input : Type 0 where
  pub left : Option (List ℕ)
  pub reads : ℕ
  pub failures : ℕ

-- A writer: the bytes that were written, if they are known, and the number of failed writes.
pub record Output : Type 0 where
  pub written : Option (List ℕ)
  pub failures : ℕ

-- The writer and the meter.
pub record Outlets (M : Type 0) : Type 0 where
  pub output : Output
  pub meter : M

-- The reader, the writer and the meter.
pub record Sides (M : Type 0) : Type 0 where
  pub input : Input
  pub outlets : Outlets M

-- The reader and the writer.
pub record Streams : Type 0 where
  pub input : Input
  pub output : Output

-- a reader, by the ghost members of its type
abbrev pub input_of : {R : Type 0} → (R → Option (List ℕ)) → (R → ℕ) → (R → ℕ) → R → Input
input_of remaining reads failures reader =
    record { left = remaining reader; reads = reads reader; failures = failures reader }

-- a writer, by the ghost members of its type
abbrev pub output_of : {W : Type 0} → (W → Option (List ℕ)) → (W → ℕ) → W → Output
output_of contents failures writer =
    record { written = contents writer; failures = failures writer }

-- a writer and a meter
abbrev pub outlets_of : {W M : Type 0} → (W → Option (List ℕ)) → (W → ℕ) → W → M → Outlets M
outlets_of contents failures writer meter =
    record { output = output_of contents failures writer; meter = meter }

-- whether nothing was written
abbrev pub WritesNothing : Output → Output → Type 0
WritesNothing before after = Appends before.written after.written []
