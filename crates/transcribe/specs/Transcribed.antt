-- What is transcribed: the words for the forms, and the same rows in both.
use Rattle.std.specs.Prelude.{◌≡◌, ℕ, ◌*◌, Bool, List, length, Ok, Err, vec_items, vec_len, codes, Result, Vec, ◌≢◌}
use Rattle.std.specs.List.{flat_map}
use Rattle.forms.specs.Forms.{flat, lined, unlined, hex_line, unhexed, any_byte, lined_byte, hex_byte}
use Rattle.rows.specs.Lines.{opened, Formed}
use Rattle.rows.specs.Rows.{BrokenForm}
use Rattle.std.specs.declared.alloc.Global.{Global}
use Rattle.transcribe.specs.declared.faults.TranscribeFault.{TranscribeFault}
use Rattle.transcribe.specs.declared.faults.TranscribeFault.TheVariants.{Form, Memory}
use Rattle.transcribe.specs.declared.transcription.Transcript.{Transcript}
use Rattle.transcribe.specs.declared.names.FormName.{FormName}
use Rattle.transcribe.specs.declared.names.FormName.TheVariants.{Flat, Lined, Hexadecimal}

abbrev pub word_of : FormName → List ℕ
word_of Flat = codes "flat"
word_of Lined = codes "lined"
word_of Hexadecimal = codes "hexadecimal"

abbrev pub NoWord : List ℕ → Type 0
NoWord word = (f : FormName) → word ≢ word_of f

-- memory for a number of lines
abbrev pub RoomFor : ℕ → ℕ → Result (Vec ℕ Global) TranscribeFault → Type 0
RoomFor size rows (Ok v) = vec_len v ≡ rows * size
RoomFor size rows (Err e) = e ≡ Memory

-- the input is what its rows are written as in the one form, and the output what they are written as in the other; or the input breaks its form
abbrev pub Rewritten : ℕ → (List ℕ → List ℕ) → (List ℕ → List ℕ) → (ℕ → ℕ → Bool) → (List ℕ → List ℕ) → List ℕ → Result Transcript TranscribeFault → Type 0
Rewritten size encoded decoded good other input (Ok t) =
    let rows = opened decoded size input in
    (flat_map encoded rows ≡ input) × (t.rows ≡ length rows) × (vec_items t.bytes ≡ flat_map other rows)
Rewritten size encoded decoded good other input (Err (Form e)) = BrokenForm good size input e
Rewritten size encoded decoded good other input (Err Memory) = Unit {0}

-- memory lacks only for an input that keeps its form
abbrev pub LacksRoom : (ℕ → ℕ → Bool) → ℕ → List ℕ → Result Transcript TranscribeFault → Type 0
LacksRoom good size input (Ok t) = Unit {0}
LacksRoom good size input (Err (Form e)) = Unit {0}
LacksRoom good size input (Err Memory) = Formed good size input

-- the forms that the words name
abbrev pub size_in : FormName → ℕ
size_in Flat = 750
size_in Lined = 752
size_in Hexadecimal = 1501

abbrev pub encoded_in : FormName → List ℕ → List ℕ
encoded_in Flat row = flat row
encoded_in Lined row = lined row
encoded_in Hexadecimal row = hex_line row

abbrev pub decoded_in : FormName → List ℕ → List ℕ
decoded_in Flat line = flat line
decoded_in Lined line = unlined line
decoded_in Hexadecimal line = unhexed line

abbrev pub good_in : FormName → ℕ → ℕ → Bool
good_in Flat place byte = any_byte place byte
good_in Lined place byte = lined_byte place byte
good_in Hexadecimal place byte = hex_byte place byte

abbrev pub Transcribed : FormName → FormName → List ℕ → Result Transcript TranscribeFault → Type 0
Transcribed from to input r = Rewritten (size_in from) (encoded_in from) (decoded_in from) (good_in from) (encoded_in to) input r
