-- The words for what a client asks of a meter's disconnect control, as a list of jobs has them.
--     verb_word   the word for a verb
--     verb_of     the verb of a word
use Rattle.std.specs.Prelude.{ℕ, if◌then◌else◌, List, codes, bytes_eq, Option, Some, None}
use Rattle.client_core.specs.declared.job.Verb.{Verb}
use Rattle.client_core.specs.declared.job.Verb.TheVariants.{Disconnect, Reconnect, ReadState}

-- the word for a verb
abbrev pub verb_word : Verb → List ℕ
verb_word Disconnect = codes "disconnect"
verb_word Reconnect = codes "reconnect"
verb_word ReadState = codes "state"

-- the verb of a word
abbrev pub verb_of : List ℕ → Option Verb
verb_of word =
    if bytes_eq word (verb_word Disconnect) then Some Disconnect else
    if bytes_eq word (verb_word Reconnect) then Some Reconnect else
    if bytes_eq word (verb_word ReadState) then Some ReadState else
    None
