-- The bytes that wait to be written to a stream.
--     WritesFront    some of the bytes that waited were written, and the others wait
use Rattle.std.specs.Prelude.{◌≡◌, ℕ, List, ◌++◌, Option}
use Rattle.std.specs.Io.KnownBytes.{Appends}

-- whether a front of the bytes that waited was written to a stream, whose bytes are known or not,
-- and the rest still waits
pub record WritesFront (written written' : Option (List ℕ)) (waiting waiting' : List ℕ) : Type 0
  where
    pub front : List ℕ
    pub split : waiting ≡ front ++ waiting'
    pub appends : Appends written written' front
