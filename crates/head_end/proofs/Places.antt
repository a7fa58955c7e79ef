-- Each job has a slot, and the slot of a job has that job.
use Rattle.std.proofs.Common.{◌≡◌, ◌*◌, ◌/◌, ◌%◌, ◌<◌, ◌∙◌, ℕ, ap, sym, arith}
use Rattle.std.proofs.lemmas.Nat.{mul-add-lt, div-mul-add, mod-mul-add}
use Rattle.std.proofs.Math.Nat.{div-lt_iff_lt-mul, div-add-mod, mul_comm}
use Rattle.head_end.specs.Campaigns.{HaveOwnSlots, place_at, slot_at}

-- the quotient of a number below a product
quotient_below : (n width height : ℕ) → 0 < width → n < height * width → n / width < height
quotient_below n width height some below =
    (div-lt_iff_lt-mul {k = width} {x = n} {y = height} some).1 below

-- a slot is below the number of slots, and so is a place
pub slot_below : (turns workers place : ℕ) → 0 < workers → place < turns * workers
    → slot_at turns workers place < turns * workers
slot_below turns workers place some below =
    mul-add-lt (place % workers) turns (place / workers) workers (omega arith)
    (quotient_below place workers turns some below)

pub place_below : (turns workers slot : ℕ) → 0 < turns → slot < turns * workers
    → place_at turns workers slot < turns * workers
place_below turns workers slot some below =
    let flipped : slot < workers * turns = rw (mul_comm workers turns) below in
    let least : slot / turns < workers = quotient_below slot turns workers some flipped in
    rw (mul_comm turns workers) (mul-add-lt (slot % turns) workers (slot / turns) turns
    (omega arith) least)

-- the job of the slot of a place is the job of that place
pub place_back : (turns workers place : ℕ) → 0 < workers → place < turns * workers
    → place_at turns workers (slot_at turns workers place) ≡ place
place_back turns workers place some below =
    let least : place / workers < turns = quotient_below place workers turns some below in
    rw (
      div-mul-add (place % workers) turns (place / workers) least,
      mod-mul-add (place % workers) turns (place / workers) least,
    )
    (omega (arith, div-add-mod place workers, mul_comm workers (place / workers)))

-- no two places have one slot
pub own_slots : HaveOwnSlots
own_slots turns workers i j some first second same =
    sym (place_back turns workers i some first)
    ∙ (ap (place_at turns workers) same ∙ place_back turns workers j some second)
