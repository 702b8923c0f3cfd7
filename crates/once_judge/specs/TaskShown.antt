-- The program's task, as the definitions see it.
use Rattle.once_judge.specs.Seen.{TaskSeen}
use Rattle.once_judge.specs.Values.{status_of}
use Rattle.once_judge.specs.declared.task.Task.{Task}

-- a task
abbrev pub task_in : Task → TaskSeen
task_in x = record {
  status = status_of x.status;
  call = record {
    waker = x.waker;
    listed = x.listed;
    began = status_of x.began;
    set_then = x.set_then;
    claimed = x.claimed;
    freed = x.freed;
    passed = x.passed;
    ran = x.ran;
  };
  begun = x.begun;
  ended = x.ended;
}
