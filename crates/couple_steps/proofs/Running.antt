-- What a run comes to, taken from what the program keeps of it. Assumes nothing.
use Rattle.std.specs.Prelude.{ℕ}
use mathlib.Core.{Path.◌≡◌, Path.◌∙◌, Bool.Bool, Logic.◌↔◌, List.List, List.[], List.◌++◌}
use Rattle.channel.specs.{System.none_came, Run.Run, Told.RunTold}
use Rattle.channel.specs.System.Origin.{input}
use Rattle.channel.proofs.Running as running
use Rattle.text.specs.Sheet.{refused_text}
use Rattle.flights.specs.Header.{header_refusal}
use Rattle.stream.specs.Coming.{endless}
use Rattle.stream.specs.Coming.Coming.{whole, stopped, failed}
use Rattle.stream.specs.Refused.{FailedRead}
use Rattle.stream.proofs.Failing.{never_an_end}
use Rattle.couple_steps.specs.Table.{table_step, table_of, longest_text}
use Rattle.couple_steps.specs.Right.{track_heading, movement_heading}
use Rattle.couple_steps.specs.{Written.MayWrite, Told.FailedTold, Told.TextTold}
use Rattle.couple_steps.specs.Written.MayWrite.{tracks, both}
use Rattle.couple_steps.specs.Told.TextTold.{ended, begun, broken, refused, unread}
use Rattle.couple_steps.proofs.Longest.{longest_table}
use Rattle.couple_steps.proofs.Rights.{accepted_right, first_fault, track_headed, movement_headed}
use Rattle.couple_steps.proofs.Says.{text_tracks, text_movements}

-- a read that failed: the line being read goes on for longer than any on its layout
fails : (columns : ℕ) (bytes : List ℕ) → FailedRead (table_step columns) longest_text [] bytes
    (table_of columns (bytes ++ endless longest_text)).refusal (table_of columns (bytes ++ endless longest_text)).line
fails columns bytes = never_an_end (table_step columns) longest_text (longest_table columns) [] bytes

module _ (columns : ℕ) (heading : List ℕ) (headed : (line : List ℕ) → header_refusal columns line ≡ 0 ↔ line ≡ heading)
    (bytes text : List ℕ) where
  failed_told : text ≡ refused_text (table_of columns (bytes ++ endless longest_text)).refusal
      (table_of columns (bytes ++ endless longest_text)).line → FailedTold columns heading bytes text
  failed_told e =
      let k = fails columns bytes in
      record {
        number = (table_of columns (bytes ++ endless longest_text)).refusal;
        line = (table_of columns (bytes ++ endless longest_text)).line;
        told = e;
        some = k.some;
        up_to = k.up_to;
        sixteen = k.sixteen;
        refused = first_fault columns heading headed (bytes ++ endless longest_text) k.first k.some;
      }

pub text_told : (text : List ℕ) → MayWrite text → TextTold text
text_told text (tracks (whole t) h is) = begun t [] h (none_came input) is
text_told text (tracks (stopped t) h is) = refused t h is
text_told text (tracks (failed t) h is) =
    let ne = (fails 8 t).some in
    unread t h
    (failed_told 8 track_heading track_headed t text (is [] ∙ text_tracks (t ++ endless longest_text) [] ne))
text_told text (both all w z (whole m) h is) = ended all m w h is
text_told text (both all w z (stopped m) h is) = begun all m w h is
text_told text (both all w z (failed m) h is) =
    let ne = (fails 9 m).some in
    broken all m w (accepted_right 8 track_heading track_headed all z) h
    (failed_told 9 movement_heading movement_headed m text (is ∙ text_movements all (m ++ endless longest_text) z ne))

pub run_told : (r : Bool) (sent : ℕ) → Run MayWrite r sent → RunTold TextTold r sent
run_told r sent run = running.run_told text_told r sent run
