-- `import` meets its contract: it is the import at the library's limit.
use Rattle.importer.proofs.import.import.Goals as goal

pub returns : goal.returns
returns c = rw c.library.ensures at c.import_at.ensures
