-- The run that a text ends, and what it comes to. Assumes nothing.
use Rattle.std.specs.Prelude.{ℕ}
use mathlib.Core.{Path.◌≡◌, Path.refl, Path.sym, Bool.Bool, Bool.true, Bool.false, List.List, List.[]}
use Rattle.channel.specs.{System.none_went, Due.Sends, Run.Run, Told.RunTold}
use Rattle.channel.specs.Told.RunTold.{went, lost}

-- from nothing sent on
pub ran : {May : List ℕ → Type 0} {text : List ℕ} {sent sent' : ℕ} {r : Bool} → May text → sent ≡ 0
    → Sends sent text r sent' → Run May r sent'
ran {May} {text} may z s =
    record {
      all = λ e. record {
        out = text;
        may = may;
        went = s.went e [] (record { first = none_went; long = sym z });
      };
      lost = s.lost;
    }

-- a text that may be written is told
pub run_told : {May Told : List ℕ → Type 0} → ((text : List ℕ) → May text → Told text) → (r : Bool) (sent : ℕ)
    → Run May r sent → RunTold Told r sent
run_told tells true sent run =
    let one = run.all refl in
    went refl one.out (tells one.out one.may) one.went.first one.went.long
run_told tells false sent run = lost refl (run.lost refl)
