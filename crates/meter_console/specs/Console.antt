-- The event of a line of the console.
--     IsOwnWord     the first word of an event of the meter itself
--     IsOwnLine     a line that begins with one
--     LineEvent        the event of a line
use Rattle.std.specs.Prelude.{◌≡◌, ◌⊎◌, ℕ, codes, List, ◌∷◌, Ok}
use Rattle.relay_events.specs.declared.event.Event.{Event}
use Rattle.trace_lines.specs.Events.{event_of}
use Rattle.trace_words.specs.declared.version.Version.TheVariants.{Two}
use Rattle.text_lines.specs.Words.{words_of}

-- whether a word begins an event of the console: a press, samples, pairs or a moment; the events
-- that clients request begin with other words
abbrev pub IsOwnWord : List ℕ → Type 0
IsOwnWord word = (word ≡ codes "button") ⊎ (word ≡ codes "samples") ⊎ (word ≡ codes "pairs")
    ⊎ (word ≡ codes "moment")

-- whether a line begins with the first word of an event of the meter itself
pub record IsOwnLine (line : List ℕ) : Type 0 where
  pub first : List ℕ
  pub others : List (List ℕ)
  pub words : words_of line ≡ first ∷ others
  pub own : IsOwnWord first

-- whether a line has this event: it is one of the meter itself, and the line is the one that a
-- trace of version 2 has for it
pub record LineEvent (line : List ℕ) (event : Event) : Type 0 where
  pub own : IsOwnLine line
  pub written : event_of Two (words_of line) ≡ Ok event
