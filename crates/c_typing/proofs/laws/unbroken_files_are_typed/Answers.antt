use Rattle.c_typing.proofs.SoundFiles.{file_typed}
use Rattle.c_typing.proofs.laws.unbroken_files_are_typed.Goals as goal

pub returns : goal.returns
returns c = file_typed
