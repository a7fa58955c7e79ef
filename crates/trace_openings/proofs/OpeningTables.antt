-- The tables of an opening are within the limits of a Data's text: a script table has at most 5,362
-- bytes, the entries of a schedule at most 242.
use Rattle.std.proofs.Common.{◌≡◌, ℕ, suc, ◌+◌, ◌*◌, ◌<◌, ◌≤◌, ◌^◌, true, nat_lt, List, [], ◌∷◌, ◌++◌, map, length, pos, refl, ap, ◌∙◌, arith, length-append}
use Rattle.std.proofs.lemmas.Bool.Decides.{nat_tests}
use Rattle.std.proofs.lemmas.Int.{fits_signed_from_abs}
use Rattle.std.proofs.lemmas.List.Elements.{All-head, All-tail}
use Rattle.std.specs.Int.{w8}
use Rattle.std.specs.List.{All}
use Rattle.hex.specs.Hex.{IsBytes}
use Rattle.action_schedule.specs.Schedule.{IsEntry, AreEntries}
use Rattle.action_schedule.specs.Writing.{entry_data, entries_data}
use Rattle.cosem_axdr.specs.Spelling.{length_text, string_text, texts, text, IsWithin, AreWithin, IsFine, AreFine}
use Rattle.cosem_axdr.specs.Tree.{Tree, Trees, count_of, nesting, nests, trees_of, array, structure, octet_string, double_long_unsigned, long_unsigned, integer, enumerated, tree, no_trees}
use Rattle.cosem_axdr.specs.View.{tree_of, all_trees}
use Rattle.cosem_axdr.specs.declared.value.Data.{Data}
use Rattle.cosem_datetime.proofs.Lengths.{five_bytes, twelve_bytes}
use Rattle.cosem_datetime.specs.Fields.{IsDateTimeFields, date_bytes, time_bytes, date_time_bytes}
use Rattle.cosem_axdr.specs.declared.value.Data.TheVariants.{OctetString, DoubleLongUnsigned, LongUnsigned, Enum, Integer}
use Rattle.cosem_datetime.specs.declared.entry.EntryPattern.{EntryPattern}
use Rattle.trace_openings.proofs.OpeningDates.{date_is_bytes, time_is_bytes, date_time_is_bytes}
use Rattle.trace_words.proofs.TextBytes.{no_bytes, one_more_byte}
use Rattle.cosem_names.specs.Forms.{structure_with}
use Rattle.cosem_names.specs.declared.objects.Which.TheVariants.{Import, Export}
use Rattle.disconnect_control.specs.Transitions.{mode_number}
use Rattle.disconnect_control.specs.declared.state.ControlMode.{ControlMode}
use Rattle.disconnect_control.specs.declared.state.ControlMode.TheVariants.{Mode0, Mode1, Mode2, Mode3, Mode4, Mode5, Mode6}
use Rattle.limiter_attributes.specs.Writing.{profile_data}
use Rattle.limiter_core.specs.declared.settings.Profile.{Profile}
use Rattle.script_steps.specs.Table.{IsStep, IsScript, IsTable}
use Rattle.script_steps.specs.Writing.{step_data, script_data, data_of}
use Rattle.script_steps.specs.declared.step.Script.{Script}
use Rattle.script_steps.specs.declared.step.Step.{Step}
use Rattle.script_steps.specs.declared.step.Step.TheVariants as step
use Rattle.trace_openings.specs.OpeningTraced.{IsTracedStep, IsTracedScript}
use Rattle.trace_words.specs.Writing.{IsHeld}

-- a value within all limits, with a text of at most `most` bytes and a nesting of at most `deep`
record IsSmall (t : Tree) (most deep : ℕ) : Type 0 where
  within : IsWithin t
  fine : IsFine t
  short : length (text t) ≤ most
  flat : nesting t ≤ deep

-- `count` such values
record AreSmall (ts : Trees) (count most deep : ℕ) : Type 0 where
  within : AreWithin ts
  fine : AreFine ts
  short : length (texts ts) ≤ count * most
  flat : nests ts ≤ deep
  counted : count_of ts ≡ count

-- ---- lengths

short_length : (n : ℕ) → n < 0x80 → length (length_text n) ≡ 1
short_length n less = let short : nat_lt n 0x80 ≡ true = grind (arith, nat_tests) in rw short refl

short_string : (bytes : List ℕ) → length bytes < 0x80 → length (string_text bytes) ≡ 1
    + length bytes
short_string bytes less = length-append (length_text (length bytes)) bytes
    ∙ ap (λ (n : ℕ). n + length bytes) (short_length (length bytes) less)

-- ---- arrays and structures

all_small : {X : Type 0} (write : X → Data) (P Q : X → Type 0) (most deep : ℕ)
    → ((x : X) → P x → Q x → IsSmall (tree_of (write x)) most deep)
    → (xs : List X) → All P xs → All Q xs → AreSmall (trees_of (all_trees (map write xs)))
    (length xs) most deep
all_small write P Q most deep small [] are others =
    record { within = tt; fine = tt; short = omega arith; flat = omega arith; counted = refl }
all_small write P Q most deep small (x ∷ xs) are others =
    let one = small x (All-head P x xs are) (All-head Q x xs others) in
    let rest = all_small write P Q most deep small xs (All-tail P x xs are) (All-tail Q x xs others)
    in
    let t = tree_of (write x) in
    let ts = trees_of (all_trees (map write xs)) in
    let joined : length (text t ++ texts ts) ≡ length (text t) + length (texts ts) =
    length-append (text t) (texts ts) in
    let more : suc (length xs) * most ≡ most + length xs * most = omega arith in
    record {
      within = (one.within, rest.within);
      fine = (one.fine, rest.fine);
      short = omega (arith, joined, more, one.short, rest.short);
      flat = omega (arith, one.flat, rest.flat);
      counted = omega (arith, rest.counted);
    }

array_small : (ts : Trees) (count most deep total : ℕ) → count < 0x80 → count * most ≤ total
    → AreSmall ts count most deep → IsSmall (array ts) (2 + total) (deep + 1)
array_small ts count most deep total less le small =
    let few : count_of ts < 0x80 = omega (arith, small.counted) in
    let joined : length (length_text (count_of ts) ++ texts ts) ≡ length (length_text (count_of ts))
    + length (texts ts) = length-append (length_text (count_of ts)) (texts ts) in
    record {
      within = small.within;
      fine = (omega arith, small.fine);
      short = omega (arith, joined, short_length (count_of ts) few, small.short);
      flat = omega (arith, small.flat);
    }

-- a structure whose items have at most `most` bytes
structure_small : (ts : Trees) (most deep : ℕ) → count_of ts < 0x80 → AreWithin ts → AreFine ts
    → length (texts ts) ≤ most → nests ts ≤ deep → IsSmall (structure ts) (2 + most) (deep + 1)
structure_small ts most deep few within fine short flat =
    let joined : length (length_text (count_of ts) ++ texts ts) ≡ length (length_text (count_of ts))
    + length (texts ts) = length-append (length_text (count_of ts)) (texts ts) in
    record {
      within = within;
      fine = (omega arith, fine);
      short = omega (arith, joined, short_length (count_of ts) few);
      flat = omega arith;
    }

-- ---- the entries of a schedule

entry_small : (entry : EntryPattern) → IsEntry entry → IsEntry entry
    → IsSmall (tree_of (entry_data entry)) 15 1
unfolding entry_data
entry_small entry is _ =
    let date = date_bytes entry.date in
    let five = five_bytes entry.date in
    let string = short_string date (omega (arith, five)) in
    let joined : length (string_text date ++ []) ≡ length (string_text date) + 0 =
    length-append (string_text date) [] in
    structure_small (tree (octet_string (time_bytes entry.time))
    (tree (octet_string date) no_trees)) 13 0 (omega arith)
    (time_is_bytes entry.time is.time, (date_is_bytes entry.date is.date, tt)) (
      tt,
      (tt, tt),
    ) (omega (arith, joined, string, five)) (omega arith)

pub entries_are_held : (entries : List EntryPattern) → AreEntries entries
    → IsHeld (entries_data entries)
unfolding entries_data
entries_are_held entries are =
    let all = all_small entry_data IsEntry IsEntry 15 1 entry_small entries are.fit are.fit in
    let small = array_small (trees_of (all_trees (map entry_data entries)))
    (length entries) 15 1 240 (omega (arith, are.few)) (omega (arith, are.few)) all in
    record {
      fits = record {
        within = small.within;
        fine = small.fine;
        flat = omega (arith, small.flat);
        short = omega (arith, small.short);
      };
    }

-- ---- a script table

pub mode_small : (mode : ControlMode) → mode_number mode ≤ 6
mode_small Mode0 = omega arith
mode_small Mode1 = omega arith
mode_small Mode2 = omega arith
mode_small Mode3 = omega arith
mode_small Mode4 = omega arith
mode_small Mode5 = omega arith
mode_small Mode6 = omega arith

word_small : (n : ℕ) → n ≤ 4294967295 → IsSmall (double_long_unsigned n) 24 1
word_small n le = record {
  within = omega arith;
  fine = tt;
  short = omega arith;
  flat = omega arith;
}

method_small : IsSmall (integer (pos 0)) 24 1
method_small = record {
  within = fits_signed_from_abs w8 (pos 0) (omega arith);
  fine = tt;
  short = omega arith;
  flat = omega arith;
}

mode_data_small : (mode : ControlMode) → IsSmall (enumerated (mode_number mode)) 24 1
mode_data_small mode = record {
  within = omega (arith, mode_small mode);
  fine = tt;
  short = omega arith;
  flat = omega arith;
}

profile_small : (profile : Profile) → profile.id ≤ 65535 → IsDateTimeFields profile.start
    → profile.duration ≤ 4294967295 → IsSmall (tree_of (profile_data profile)) 24 1
profile_small profile id_fits start_fits duration_fits =
    let start = date_time_bytes profile.start in
    let twelve = twelve_bytes profile.start in
    let string = short_string start (omega (arith, twelve)) in
    let duration = text (double_long_unsigned profile.duration) in
    let joined : length (string_text start ++ (duration ++ [])) ≡ length (string_text start)
    + length (duration ++ []) = length-append (string_text start) (duration ++ []) in
    structure_small (tree (long_unsigned profile.id)
    (tree (octet_string start) (tree (double_long_unsigned profile.duration) no_trees))) 22 0
    (omega arith)
    (omega arith, (date_time_is_bytes profile.start start_fits, (omega arith, tt))) (
      tt,
      (tt, (tt, tt)),
    ) (omega (arith, joined, string, twelve)) (omega arith)

-- a step's service, class, name, index and parameter
parts_small : (service class index : ℕ) (name : List ℕ) (parameter : Data) → service < 256
    → class < 2 ^ 16 → index < 128 → length name ≡ 6 → IsBytes name
    → IsSmall (tree_of parameter) 24 1
    → IsSmall (tree_of (structure_with (Enum service ∷ LongUnsigned class ∷ OctetString name
    ∷ Integer (pos index) ∷ parameter ∷ []))) 41 2
parts_small service class index name parameter service_fits class_fits index_fits six are small =
    let t = tree_of parameter in
    let string = short_string name (omega (arith, six)) in
    let last = text (integer (pos index)) ++ (text t ++ []) in
    let joined : length (string_text name ++ last) ≡ length (string_text name) + length last =
    length-append (string_text name) last in
    let end : length (text t ++ []) ≡ length (text t) + 0 = length-append (text t) [] in
    structure_small (tree (enumerated service)
    (tree (long_unsigned class) (tree (octet_string name)
    (tree (integer (pos index)) (tree t no_trees))))) 39 1 (omega arith) (
      service_fits,
      (
        class_fits,
        (
          are,
          (
            fits_signed_from_abs w8 (pos index) index_fits,
            (small.within, tt),
          ),
        ),
      ),
    )
    (tt, (tt, (tt, (tt, (small.fine, tt))))) (omega (arith, joined, end, string, six, small.short))
    (omega (arith, small.flat))

-- the logical names of the disconnect control and of both limiters
six_bytes : (a b c d e f : ℕ) → a < 256 → b < 256 → c < 256 → d < 256 → e < 256 → f < 256
    → IsBytes (a ∷ b ∷ c ∷ d ∷ e ∷ f ∷ [])
six_bytes a b c d e f la lb lc ld le lf =
    one_more_byte a (b ∷ c ∷ d ∷ e ∷ f ∷ []) la
    (one_more_byte b (c ∷ d ∷ e ∷ f ∷ []) lb
    (one_more_byte c (d ∷ e ∷ f ∷ []) lc (one_more_byte d (e ∷ f ∷ []) ld
    (one_more_byte e (f ∷ []) le (one_more_byte f [] lf no_bytes)))))

control_small : (service index : ℕ) (parameter : Data) → service < 256 → index < 128
    → IsSmall (tree_of parameter) 24 1
    → IsSmall (tree_of (structure_with (Enum service ∷ LongUnsigned 70
    ∷ OctetString (0 ∷ 0 ∷ 96 ∷ 3 ∷ 10 ∷ 255 ∷ []) ∷ Integer (pos index) ∷ parameter ∷ []))) 41
    2
control_small service index parameter service_fits index_fits small =
    parts_small service 70 index (0 ∷ 0 ∷ 96 ∷ 3 ∷ 10 ∷ 255 ∷ []) parameter service_fits
    (omega arith) index_fits refl
    (six_bytes 0 0 96 3 10 255 (omega arith) (omega arith) (omega arith) (omega arith) (omega arith)
    (omega arith)) small

limiter_small : (channel index : ℕ) (parameter : Data) → channel < 256 → index < 128
    → IsSmall (tree_of parameter) 24 1
    → IsSmall (tree_of (structure_with (Enum 1 ∷ LongUnsigned 71
    ∷ OctetString (0 ∷ channel ∷ 17 ∷ 0 ∷ 0 ∷ 255 ∷ []) ∷ Integer (pos index) ∷ parameter
    ∷ []))) 41 2
limiter_small channel index parameter channel_fits index_fits small =
    parts_small 1 71 index (0 ∷ channel ∷ 17 ∷ 0 ∷ 0 ∷ 255 ∷ []) parameter (omega arith)
    (omega arith) index_fits refl
    (six_bytes 0 channel 17 0 0 255 (omega arith) channel_fits (omega arith) (omega arith)
    (omega arith) (omega arith)) small

step_small : (s : Step) → IsStep s → IsTracedStep s → IsSmall (tree_of (step_data s)) 41 2
unfolding step_data
step_small (step.WriteMode mode) is traced = control_small 1 4 (Enum (mode_number mode))
    (omega arith) (omega arith) (mode_data_small mode)
step_small (step.WriteNormal Import watts) is traced = limiter_small 0 4 (DoubleLongUnsigned watts)
    (omega arith) (omega arith) (word_small watts traced)
step_small (step.WriteNormal Export watts) is traced = limiter_small 1 4 (DoubleLongUnsigned watts)
    (omega arith) (omega arith) (word_small watts traced)
step_small (step.WriteEmergency Import watts) is traced = limiter_small 0 5
    (DoubleLongUnsigned watts) (omega arith) (omega arith) (word_small watts traced)
step_small (step.WriteEmergency Export watts) is traced = limiter_small 1 5
    (DoubleLongUnsigned watts) (omega arith) (omega arith) (word_small watts traced)
step_small (step.WriteMinOver Import seconds) is traced = limiter_small 0 6
    (DoubleLongUnsigned seconds) (omega arith) (omega arith)
    (word_small seconds (omega (arith, is)))
step_small (step.WriteMinOver Export seconds) is traced = limiter_small 1 6
    (DoubleLongUnsigned seconds) (omega arith) (omega arith)
    (word_small seconds (omega (arith, is)))
step_small (step.WriteMinUnder Import seconds) is traced = limiter_small 0 7
    (DoubleLongUnsigned seconds) (omega arith) (omega arith)
    (word_small seconds (omega (arith, is)))
step_small (step.WriteMinUnder Export seconds) is traced = limiter_small 1 7
    (DoubleLongUnsigned seconds) (omega arith) (omega arith)
    (word_small seconds (omega (arith, is)))
step_small (step.WriteProfile Import profile) is traced = limiter_small 0 8 (profile_data profile)
    (omega arith) (omega arith) (profile_small profile traced.0 is traced.1)
step_small (step.WriteProfile Export profile) is traced = limiter_small 1 8 (profile_data profile)
    (omega arith) (omega arith) (profile_small profile traced.0 is traced.1)
step_small step.Disconnect is traced = control_small 2 1 (Integer (pos 0)) (omega arith)
    (omega arith) method_small
step_small step.Reconnect is traced = control_small 2 2 (Integer (pos 0)) (omega arith)
    (omega arith) method_small

script_small : (s : Script) → IsScript s → IsTracedScript s
    → IsSmall (tree_of (script_data s)) 335 4
unfolding script_data
script_small s is traced =
    let ts = trees_of (all_trees (map step_data s.steps)) in
    let steps = array_small ts (length s.steps) 41 2 328 (omega (arith, is.few))
    (omega (arith, is.few)) (all_small step_data IsStep IsTracedStep 41 2 step_small s.steps
    is.fit traced.steps) in
    let end : length (text (array ts) ++ []) ≡ length (text (array ts)) + 0 =
    length-append (text (array ts)) [] in
    structure_small (tree (long_unsigned s.identifier) (tree (array ts) no_trees)) 333 3
    (omega arith)
    (omega (arith, traced.identifier), (steps.within, tt)) (tt, (steps.fine, tt))
    (omega (arith, end, steps.short)) (omega (arith, steps.flat))

pub scripts_are_held : (scripts : List Script) → IsTable scripts → All IsTracedScript scripts
    → IsHeld (data_of scripts)
unfolding data_of
scripts_are_held scripts fits traced =
    let ts = trees_of (all_trees (map script_data scripts)) in
    let small = array_small ts (length scripts) 335 4 5360 (omega (arith, fits.few))
    (omega (arith, fits.few)) (all_small script_data IsScript IsTracedScript 335 4 script_small
    scripts fits.fit traced) in
    record {
      fits = record {
        within = small.within;
        fine = small.fine;
        flat = omega (arith, small.flat);
        short = omega (arith, small.short);
      };
    }
