-- THE FORM LAW: in any form, rows and lines are each other's.
use Rattle.std.specs.Prelude.{◌≡◌, ℕ, ◌*◌, ◌/◌, ◌≤◌, Bool, List, length, take}
use Rattle.std.specs.List.{flat_map}
use Rattle.rows.specs.Lines.{opened, Whole, OfBytes, Formed}
use Rattle.rows.specs.Rows.{put_all, laid}

pub record FormLaw (size : ℕ) (encoded decoded : List ℕ → List ℕ) (good : ℕ → ℕ → Bool) : Type 0 where
  -- rows that are written one after the other keep the form, and read as those rows
  pub read_back : (rows : List (List ℕ)) → Whole rows → OfBytes rows → Formed good size (flat_map encoded rows) × (opened decoded size (flat_map encoded rows) ≡ rows)
  -- bytes that keep the form are what their rows are written as
  pub written_back : (bytes : List ℕ) → Formed good size bytes → Whole (opened decoded size bytes) × (flat_map encoded (opened decoded size bytes) ≡ bytes)
  -- rows pushed on an empty carrier lie at the start of its memory, and what was written of it reads as those rows
  pub pushed_back : (memory : List ℕ) (rows : List (List ℕ)) → Whole rows → OfBytes rows → length rows ≤ length memory / size → (put_all size encoded memory 0 rows ≡ laid size encoded rows memory) × (opened decoded size (take (length rows * size) (put_all size encoded memory 0 rows)) ≡ rows)
