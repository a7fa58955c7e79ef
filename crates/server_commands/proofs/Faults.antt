-- The faults of the beginning of a program are faults of `asked`.
use Rattle.std.proofs.Common.{◌≡◌, refl, true}
use Rattle.program.specs.declared.fault.Fault.{Fault}
use Rattle.program.specs.declared.fault.Fault.TheVariants.{Input, Read, Write, Listen, Memory, Turns}
use Rattle.program.specs.Ends.{is_of_words, is_of_texts}
use Rattle.program.specs.Passwords.{is_of_files}
use Rattle.server_commands.specs.Asking.{is_of_asking}

-- a fault of reading the words
pub words_told : (fault : Fault) → is_of_words fault ≡ true → is_of_asking fault ≡ true
words_told Input e = refl
words_told Read e = absurd cc
words_told Write e = absurd cc
words_told Listen e = absurd cc
words_told Memory e = refl
words_told Turns e = absurd cc

-- a fault of printing a text
pub texts_told : (fault : Fault) → is_of_texts fault ≡ true → is_of_asking fault ≡ true
texts_told Input e = absurd cc
texts_told Read e = absurd cc
texts_told Write e = refl
texts_told Listen e = absurd cc
texts_told Memory e = refl
texts_told Turns e = absurd cc

-- a fault of a file without a password
pub files_told : (fault : Fault) → is_of_files fault ≡ true → is_of_asking fault ≡ true
files_told Input e = refl
files_told Read e = refl
files_told Write e = absurd cc
files_told Listen e = absurd cc
files_told Memory e = refl
files_told Turns e = absurd cc
