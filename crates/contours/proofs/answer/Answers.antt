-- `contours::answer`: what the reading came to is what each answer asks for. Assumes nothing.
use mathlib.Core.Path.{sym}
use lib.Seq.{length-take-le}
use Rattle.contours.proofs.answer.Goals as goal

pub judged-requires : goal.judged-requires
judged-requires c =
    let came = (rw c.in-Complete.is at c.requires.fills).filling in
    record {
      read_whole = came.2;
      gathered = c.requires.gathered;
      asked_len = c.requires.asked_len;
      sent_value = c.requires.sent_value;
    }

pub failed-requires : goal.failed-requires
failed-requires c =
    let came = (rw c.in-FailedAfter.is at c.requires.fills).filling in
    record { read_failed = came.2; gathered = c.requires.gathered; sent_value = c.requires.sent_value }

pub overlong-requires : goal.overlong-requires
overlong-requires c =
    record {
      read_full = ((rw c.in-Full.is at c.requires.fills).filling, c.requires.text_len);
      gathered = c.requires.gathered;
      sent_value = c.requires.sent_value;
    }

pub slice_bounds-judged-end : goal.slice_bounds-judged-end
slice_bounds-judged-end c =
    let came = (rw c.in-Complete.is at c.requires.fills).filling in sym (length-take-le _ _ came.0)

pub slice_bounds-failed-end : goal.slice_bounds-failed-end
slice_bounds-failed-end c =
    let came = (rw c.in-FailedAfter.is at c.requires.fills).filling in sym (length-take-le _ _ came.0)
