-- What an answer of the check says of the file, by the law.
use Rattle.std.proofs.Common.{◌≡◌, ℕ, ◌<◌, List, [], length, get_or, IfOk, Ok, Err, Result, sym, ap, ◌∙◌}
use Rattle.std.proofs.ByRecursion.{All-from_get_or}
use Rattle.layouts.specs.Layout.{Layout}
use Rattle.layouts.specs.Lawful.{Lawful}
use Rattle.records.specs.Row.{Entry}
use Rattle.files.specs.declared.checking.Accepted.{Accepted}
use Rattle.refusals.specs.declared.file.FileFault.{FileFault}
use Rattle.legality.specs.Before.{rows_of}
use Rattle.legality.specs.File.{Legal, accepted, checked, FileLaw}
use Rattle.files.specs.Told.{accepted_of, told, OneLegal}
use Rattle.legality.proofs.Law.{file_law}

module _ (l : Layout) (law : Lawful l) (rows : List (List ℕ)) (long : (k : ℕ) → k < length rows → length (get_or rows k []) ≡ 750) (r : Result Accepted FileFault) (answer : told r ≡ checked l rows) where
  pub backed : IfOk r (λ a. OneLegal l rows (accepted_of a))
  backed = go r answer
    where
      go : (r : Result Accepted FileFault) → told r ≡ checked l rows → IfOk r (λ a. OneLegal l rows (accepted_of a))
      go (Ok a) e =
          let h = (file_law l law).backed rows (accepted_of a) (All-from_get_or (λ row. length row ≡ 750) rows [] long) (sym e) in
          record {
            entries = h.0;
            legal = h.1;
            printed = h.2;
            sums = h.3;
            alone = λ fs legal same. (file_law l law).alone fs h.0 legal h.1 (same ∙ sym h.2);
          }
      go (Err f) e = tt

  -- all that the check promises of its answer
  pub says : record { answer : told r ≡ checked l rows; law : FileLaw l; backed : IfOk r (λ a. OneLegal l rows (accepted_of a)); passes : (es : List Entry) → Legal l es → rows_of l es ≡ rows → told r ≡ Ok (accepted l es) }
  says = record { answer = answer; law = file_law l law; backed = backed; passes = λ es legal same. answer ∙ ap (checked l) (sym same) ∙ ((file_law l law).passes es legal).1 }
