-- A board with the handle by which its end waits: what contracts see of the board.
use Rattle.cmh_shared.specs.Boards.{Listed}
use Rattle.cmh_shared.specs.declared.kept_board.KeptBoard.{KeptBoard}

abbrev pub kept_board : {R : Type 0} → KeptBoard R → Listed
kept_board k = k.board
