-- `files::inner::put_told` meets its contract: the text of the program that asks for it. Assumes nothing.
use Rattle.files.proofs.inner.put_told.Goals as goal

pub returns-in-Report : goal.returns-in-Report
returns-in-Report c = record { wrote = rw c.in-Report.is c.put_report.ensures.wrote }

pub returns-in-Explain : goal.returns-in-Explain
returns-in-Explain c = record { wrote = rw c.in-Explain.is c.put_explained.ensures.wrote }
