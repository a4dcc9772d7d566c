-- Every record of specs/Theorems.antt, by its proof.
use Rattle.demands.specs.Theorems.{Answering, Keeping, Exporting, Reading, Building, Editing, Texts, TestLoads, Files, Cells, Panels}
use Rattle.demands.proofs.Answering as on-answers
use Rattle.demands.proofs.Keeping as on-refusals
use Rattle.demands.proofs.Reading as on-reading
use Rattle.demands.proofs.Building as on-building
use Rattle.demands.proofs.Editing as on-editing
use Rattle.demands.proofs.Texts as on_texts
use Rattle.demands.proofs.TestLoads as on-test-loads
use Rattle.demands.proofs.Files as on-files
use Rattle.demands.proofs.Cells as on-cells
use Rattle.demands.proofs.Panels as on-panels

-- demand 1: what each operation answers, and that a refusal keeps lent memory
pub answering : Answering
answering = on-answers.answering

pub keeping : Keeping
keeping = on-refusals.keeping

pub exporting : Exporting
exporting = on-refusals.exporting

-- demand 2, of tables from anywhere
pub reading : Reading
reading = on-reading.reading

-- demands 2 and 3, of every valid list
pub building : Building
building = on-building.building

-- put in, take out
pub editing : Editing
editing = on-editing.editing

-- suppliers' lists as text
pub texts : Texts
texts = on_texts.texts

-- a studio's own test load
pub test_loads : TestLoads
test_loads = on-test-loads.test_loads

-- table files
pub files : Files
files = on-files.files

-- where the glass lies
pub cells : Cells
cells = on-cells.cells

-- holds decide the panel
pub panels : Panels
panels = on-panels.panels
